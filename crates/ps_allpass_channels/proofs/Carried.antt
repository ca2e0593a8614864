-- The delays after a frame, number by number: they hold its channels, and lanes without one are silent. Assumes nothing.
use Prim.Native.Nat.{ℕ, ◌+◌, ◌-◌, ◌*◌, ◌/◌, ◌%◌, ◌<◌, ◌≤◌}
use native.Mathlib.Omega.{arith}
use mathlib.Core.Path.{◌≡◌, refl, sym, ap, ◌∙◌}
use mathlib.Core.Bool.{Bool, true, false, cond}
use mathlib.Core.List.{List}
use borrow.Author.Tests.{ltb-true, ltb-false}
use lib.Dec.{ltb}
use lib.Ieee.{Float, nan}
use lib.ListN.{length, get_or, drop}
use lib.Seq.{ext_get_or, get_or-drop}
use Rattle.complex.specs.declared.Complex.{Complex}
use Rattle.layout.specs.declared.Layout.{Layout}
use Rattle.layout.specs.Numbers.{all_pass_of, groups_of}
use Rattle.lists.specs.Part.{part}
use Rattle.lists.specs.Rows.{tabulate}
use Rattle.lists.proofs.Maps.{tabulate_length, tabulate_at}
use Rattle.lists.proofs.Parts.{part_at}
use Rattle.planar.specs.Lanes.{on}
use Rattle.planar.specs.Rings.{ring_cell}
use Rattle.ps_allpass_groups.specs.Rings.{Holds}
use Rattle.ps_allpass_groups.proofs.Reading.{CellsOf, holds_cells}
use Rattle.ps_decorr_allpass.specs.Memory.{lane_of, cell_of, owner_of, number_of, delays_with}
use Rattle.standard.specs.Channel.{Channel}
use Rattle.standard.specs.Numbers.{zero}
use Rattle.ps_allpass_channels.proofs.Freeing.{Freed}

-- ---- where number m stands
module _ (m : ℕ) where
  own_group : owner_of m / 4 ≡ m / 112
  own_group = omega arith

  own_lane : owner_of m % 4 ≡ m % 4
  own_lane = omega arith

  cell_small : m % 112 / 8 < 14
  cell_small = omega arith

  real_place : m % 8 < 4 → m ≡ 112 * (m / 112) + (8 * (m % 112 / 8) + m % 4)
  real_place h = omega arith

  imaginary_place : 4 ≤ m % 8 → m ≡ 112 * (m / 112) + (8 * (m % 112 / 8) + m % 4 + 4)
  imaginary_place h = omega arith

  inside : 8 * (m % 112 / 8) + m % 4 + 4 < 112
  inside = omega arith

-- it is a part of its owner's cell
pub number_read : (delays : List Float) (m : ℕ) → get_or delays m nan ≡ number_of m (lane_of delays (owner_of m))
unfolding lane_of on
number_read delays m = rw (own_group m, own_lane m) (by (ltb (m % 8) 4) refl)
  where
    place : ℕ
    place = 8 * (m % 112 / 8) + m % 4

    by : (b : Bool) → ltb (m % 8) 4 ≡ b
        → get_or delays m nan ≡ cond b (get_or (part (112 * (m / 112)) 112 delays) (8 * (m % 112 / 8) + m % 4) nan) (get_or (part (112 * (m / 112)) 112 delays) (8 * (m % 112 / 8) + m % 4 + 4) nan)
    by true e =
        ap (λ (i : ℕ). get_or delays i nan) (real_place m (ltb-true (m % 8) 4 e))
        ∙ sym (part_at (112 * (m / 112)) 112 delays (8 * (m % 112 / 8) + m % 4) nan (omega (arith, inside m)))
    by false e =
        ap (λ (i : ℕ). get_or delays i nan) (imaginary_place m (ltb-false (m % 8) 4 e))
        ∙ sym (part_at (112 * (m / 112)) 112 delays (8 * (m % 112 / 8) + m % 4 + 4) nan (inside m))

-- ---- the cells of a channel
cell_is : (t : ℕ) (f : ℕ → Complex) (c : Channel) → Holds t f c → (j : ℕ) → j < 14 → f j ≡ cell_of t c j
unfolding cell_of
cell_is t f c h j u = first (ltb j 2) refl
  where
    r : CellsOf t f c
    r = holds_cells t f c h

    from : (d : ℕ) → d ≤ j → f j ≡ f (d + (j - d))
    from d h = ap f (omega arith)

    third : (b : Bool) → ltb j 9 ≡ b → 5 ≤ j → f j ≡ cond b (ring_cell 4 t c.second (j - 5)) (ring_cell 5 t c.third (j - 9))
    third true e h = let less = ltb-true j 9 e in from 5 h ∙ r.second (j - 5) (omega arith)
    third false e h = let more = ltb-false j 9 e in from 9 more ∙ r.third (j - 9) (omega arith)

    second : (b : Bool) → ltb j 5 ≡ b → 2 ≤ j
        → f j ≡ cond b (ring_cell 3 t c.first (j - 2)) (cond (ltb j 9) (ring_cell 4 t c.second (j - 5)) (ring_cell 5 t c.third (j - 9)))
    second true e h = let less = ltb-true j 5 e in from 2 h ∙ r.first (j - 2) (omega arith)
    second false e h = third (ltb j 9) refl (ltb-false j 5 e)

    first : (b : Bool) → ltb j 2 ≡ b
        → f j
        ≡ cond b (ring_cell 2 t c.past j)
        (cond (ltb j 5) (ring_cell 3 t c.first (j - 2)) (cond (ltb j 9) (ring_cell 4 t c.second (j - 5)) (ring_cell 5 t c.third (j - 9))))
    first true e = r.past j (ltb-true j 2 e)
    first false e = second (ltb j 5) refl (ltb-false j 2 e)

-- ---- all of them
module _ (l : Layout) (t : ℕ) (channel : ℕ → Channel) (old delays new : List Float) (holds : (k : ℕ) → k < all_pass_of l → Holds t (lane_of delays k) (channel k))
    (long : length delays ≡ length old) (behind : drop (112 * groups_of l) delays ≡ drop (112 * groups_of l) old) (freed : Freed l delays new) where
  number : ℕ → Float
  number m = cond (ltb m (112 * groups_of l)) (cond (ltb (owner_of m) (all_pass_of l)) (number_of m (cell_of t (channel (owner_of m)))) zero) (get_or old m nan)

  mine : (m : ℕ) → m < 112 * groups_of l → (b : Bool) → ltb (owner_of m) (all_pass_of l) ≡ b
      → get_or new m nan ≡ cond b (number_of m (cell_of t (channel (owner_of m)))) zero
  mine m u true e =
      let own = ltb-true (owner_of m) (all_pass_of l) e in
      freed.kept m u own
      ∙ number_read delays m
      ∙ ap (λ (z : Complex). cond (ltb (m % 8) 4) z.re z.im)
      (cell_is t (lane_of delays (owner_of m)) (channel (owner_of m)) (holds (owner_of m) own) (m % 112 / 8) (cell_small m))
  mine m u false e = freed.cleared m u (ltb-false (owner_of m) (all_pass_of l) e)

  rest : (m : ℕ) → 112 * groups_of l ≤ m → get_or delays m nan ≡ get_or old m nan
  rest m h =
      let place : m ≡ 112 * groups_of l + (m - 112 * groups_of l) = omega arith in
      ap (λ (i : ℕ). get_or delays i nan) place
      ∙ sym (get_or-drop (112 * groups_of l) delays (m - 112 * groups_of l) nan)
      ∙ ap (λ (xs : List Float). get_or xs (m - 112 * groups_of l) nan) behind
      ∙ get_or-drop (112 * groups_of l) old (m - 112 * groups_of l) nan
      ∙ ap (λ (i : ℕ). get_or old i nan) (sym place)

  each : (m : ℕ) → (b : Bool) → ltb m (112 * groups_of l) ≡ b
      → get_or new m nan ≡ cond b (cond (ltb (owner_of m) (all_pass_of l)) (number_of m (cell_of t (channel (owner_of m)))) zero) (get_or old m nan)
  each m true e = mine m (ltb-true m (112 * groups_of l) e) (ltb (owner_of m) (all_pass_of l)) refl
  each m false e = let past = ltb-false m (112 * groups_of l) e in freed.behind m past ∙ rest m past

  pub delays_are : new ≡ delays_with l t channel old
  unfolding delays_with number
  delays_are =
      let size : length new ≡ length old = freed.long ∙ long in
      ext_get_or nan new (tabulate number (length old)) (size ∙ sym (tabulate_length number (length old)))
      (λ m u. each m (ltb m (112 * groups_of l)) refl ∙ sym (tabulate_at number (length old) m nan (rw size at u)))
