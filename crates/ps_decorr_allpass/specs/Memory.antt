-- The carried delays of the all-pass channels in a flat list: 112 numbers for each group of four channels, 14 cells of four real and four imaginary parts,
-- so that each channel has a lane. Its rings of 2, 3, 4 and 5 cells hold what came in and the states of the three links; all are after the same number of
-- slots. Assumes nothing.
use Rattle.std.specs.Prelude.{ℕ, ◌+◌, ◌-◌, ◌*◌, ◌/◌, ◌%◌, cond, List, length, nat_le, nat_lt, slice_index_or, Float}
use Rattle.std.specs.Float.{nan}
use Rattle.complex.specs.declared.Complex.{Complex}
use Rattle.layout.specs.declared.Layout.{Layout}
use Rattle.layout.specs.Numbers.{all_pass_of, groups_of}
use Rattle.lists.specs.Part.{part}
use Rattle.lists.specs.Rows.{tabulate}
use Rattle.planar.specs.Lanes.{on}
use Rattle.planar.specs.Rings.{ring_cell, ringed}
use Rattle.standard.specs.Channel.{Channel}
use Rattle.standard.specs.Numbers.{zero}

-- the cells of channel k
unfoldable pub lane_of : List Float → ℕ → ℕ → Complex
lane_of delays k j = on (k % 4) (part (112 * (k / 4)) 112 delays) j

-- the channel that the cells of a lane hold after t slots
unfoldable pub channel_of : ℕ → (ℕ → Complex) → Channel
channel_of t cells =
    record {
      past = ringed 2 t cells;
      first = ringed 3 t (λ j. cells (2 + j));
      second = ringed 4 t (λ j. cells (5 + j));
      third = ringed 5 t (λ j. cells (9 + j));
    }

-- cell j of the lane that holds a channel
unfoldable pub cell_of : ℕ → Channel → ℕ → Complex
cell_of t c j =
    cond (nat_lt j 2) (ring_cell 2 t c.past j)
    (cond (nat_lt j 5) (ring_cell 3 t c.first (j - 2))
    (cond (nat_lt j 9) (ring_cell 4 t c.second (j - 5)) (ring_cell 5 t c.third (j - 9))))

-- the channel that number m of the list belongs to
abbrev pub owner_of : ℕ → ℕ
owner_of m = 4 * (m / 112) + m % 4

-- the part of its lane's cell that number m is
abbrev pub number_of : ℕ → (ℕ → Complex) → Float
number_of m cells = cond (nat_lt (m % 8) 4) (cells (m % 112 / 8)).re (cells (m % 112 / 8)).im

-- the numbers that belong to the channels from k on are 0
unfoldable pub silenced_from : (ℕ → ℕ) → ℕ → List Float → List Float
silenced_from owner k xs = tabulate (λ m. cond (nat_le k (owner m)) zero (slice_index_or xs m nan)) (length xs)

-- the numbers that hold a layout's all-pass channels after t slots; lanes of its groups that have no channel are 0, and what lies behind stays
unfoldable pub delays_with : Layout → ℕ → (ℕ → Channel) → List Float → List Float
delays_with l t channel old =
    tabulate (λ m. cond (nat_lt m (112 * groups_of l)) (cond (nat_lt (owner_of m) (all_pass_of l)) (number_of m (cell_of t (channel (owner_of m)))) zero) (slice_index_or old m nan)) (length old)
