-- Where the numbers of a channel's lane lie: the cells of a lane by their numbers. Assumes nothing.
use Rattle.std.proofs.Common.{◌≡◌, ℕ, ◌+◌, ◌*◌, ◌/◌, ◌%◌, ◌<◌, ◌≤◌, List, length, get_or, sym, ap, ◌∙◌, arith, le-ltb, lt-ltb}
use lib.Ieee.{Float, nan}
use Rattle.complex.specs.declared.Complex.{Complex}
use Rattle.layout.specs.declared.Layout.{Layout}
use Rattle.layout.specs.Numbers.{all_pass_of, groups_of}
use Rattle.layout.proofs.Bounds.{bounds}
use Rattle.lists.proofs.Maps.{tabulate_at}
use Rattle.lists.proofs.Parts.{part_at}
use Rattle.planar.specs.Cells.{cell}
use Rattle.planar.specs.Lanes.{on}
use Rattle.planar.proofs.Cells.{by_parts}
use Rattle.standard.specs.Channel.{Channel}
use Rattle.ps_decorr_allpass.specs.Memory.{lane_of, cell_of, owner_of, number_of, delays_with}

-- ---- number i of group g

module _ (g i : ℕ) (h : i < 112) where
  group_is : (112 * g + i) / 112 ≡ g
  group_is = omega arith

  lane_is : (112 * g + i) % 4 ≡ i % 4
  lane_is = omega arith

  pub owner_is : owner_of (112 * g + i) ≡ 4 * g + i % 4
  owner_is = rw (group_is, lane_is)

-- ---- cell j of channel k: its real part, and the imaginary part four places behind

abbrev pub place_of : ℕ → ℕ → ℕ
place_of k j = 112 * (k / 4) + (8 * j + k % 4)

module _ (k j : ℕ) (h : j < 14) where
  -- the imaginary part among its group's numbers
  four_behind : place_of k j + 4 ≡ 112 * (k / 4) + (8 * j + k % 4 + 4)
  four_behind = omega arith

  pub owner_re : owner_of (place_of k j) ≡ k
  owner_re = owner_is (k / 4) (8 * j + k % 4) (omega arith) ∙ omega arith

  pub owner_im : owner_of (place_of k j + 4) ≡ k
  owner_im = ap owner_of four_behind ∙ owner_is (k / 4) (8 * j + k % 4 + 4) (omega arith) ∙ omega arith

  cell_re : place_of k j % 112 / 8 ≡ j
  cell_re = omega arith

  cell_im : (place_of k j + 4) % 112 / 8 ≡ j
  cell_im = omega arith

  side_re : place_of k j % 8 < 4
  side_re = omega arith

  side_im : 4 ≤ (place_of k j + 4) % 8
  side_im = omega arith

  number_re : (cells : ℕ → Complex) → number_of (place_of k j) cells ≡ (cells j).re
  number_re cells = rw (lt-ltb (place_of k j % 8) 4 side_re, cell_re)

  number_im : (cells : ℕ → Complex) → number_of (place_of k j + 4) cells ≡ (cells j).im
  number_im cells = rw (le-ltb ((place_of k j + 4) % 8) 4 side_im, cell_im)

  pub lane_at : (delays : List Float) → lane_of delays k j ≡ cell 4 delays (place_of k j)
  unfolding lane_of on
  lane_at delays =
      by_parts
      (part_at (112 * (k / 4)) 112 delays (8 * j + k % 4) nan (omega arith))
      (part_at (112 * (k / 4)) 112 delays (8 * j + k % 4 + 4) nan (omega arith) ∙ ap (λ (n : ℕ). get_or delays n nan) (sym four_behind))

  -- ---- the cells of a lane that holds a channel
  module _ (l : Layout) (t : ℕ) (channel : ℕ → Channel) (old : List Float) (long : length old ≡ 1456) (u : k < all_pass_of l) where
    number_held : (m : ℕ) → m < 112 * groups_of l → owner_of m ≡ k → get_or (delays_with l t channel old) m nan ≡ number_of m (cell_of t (channel k))
    unfolding delays_with
    number_held m v e =
        tabulate_at _ (length old) m nan (omega (arith, (bounds l).groups))
        ∙ rw (lt-ltb m (112 * groups_of l) v, lt-ltb (owner_of m) (all_pass_of l) (rw e u), e)

    pub lane_held : lane_of (delays_with l t channel old) k j ≡ cell_of t (channel k) j
    lane_held =
        let room = (bounds l).grouped in
        lane_at (delays_with l t channel old)
        ∙ by_parts
        (number_held (place_of k j) (omega arith) owner_re ∙ number_re (cell_of t (channel k)))
        (number_held (place_of k j + 4) (omega arith) owner_im ∙ number_im (cell_of t (channel k)))
