-- A delay of d slots in a ring of d complex numbers, after t slots: the newest was written at t - 1 modulo d. Assumes nothing.
use Rattle.std.specs.Prelude.{ℕ, ◌+◌, ◌*◌, List, ◌++◌, Float}
use Rattle.complex.specs.declared.Complex.{Complex}
use Rattle.lists.specs.Ring.{age}
use Rattle.lists.specs.Rows.{rows, tabulate}
use Rattle.standard.specs.Channel.{back}
use Rattle.planar.specs.Cells.{cell, side_by_side}

-- number j of the ring that holds a history
abbrev pub ring_cell : ℕ → ℕ → List Complex → ℕ → Complex
ring_cell d t history j = back (age d t j) history

-- the history that a ring holds, the newest first
abbrev pub ringed : ℕ → ℕ → (ℕ → Complex) → List Complex
ringed d t cell = tabulate (λ i. cell (age d t i)) d

-- the plain delays: a ring of 14 rows of 12 QMF bands, 336 numbers, then a row of 29 that is a delay of one slot. What came into band j of each, the
-- newest first, and the list of all of them
abbrev pub long_past : ℕ → List Float → ℕ → List Complex
long_past t plain j = ringed 14 t (λ r. cell 1 plain (24 * r + 2 * j))

abbrev pub short_past : List Float → ℕ → List Complex
short_past plain j = tabulate (λ i. cell 1 plain (336 + 2 * j)) 1

abbrev pub plain_of : ℕ → (ℕ → List Complex) → (ℕ → List Complex) → List Float
plain_of t long short = rows (λ r. side_by_side (λ j. ring_cell 14 t (long j) r) 12) 14 ++ side_by_side (λ j. back 0 (short j)) 29
