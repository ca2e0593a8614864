-- The desk of a group of four channels: what it takes in a slot, and both sides that it gives, 136 numbers. Each of them stands four times, once for each
-- lane: the constants of the chains, coefficients at a border, what they are to gain until the next, samples, ducking factors, left, right.
-- Assumes nothing.
use Rattle.std.specs.Prelude.{ℕ, ◌+◌, Bool, cond, List, Float, get_or}
use Rattle.std.specs.Float.{nan}
use Rattle.complex.specs.declared.Complex.{Complex}
use Rattle.planar.specs.Cells.{cell}
use Rattle.ps_stereo_slots.specs.Regions.{stepped}
use Rattle.standard.specs.declared.Chain.{Chain}
use Rattle.standard.specs.declared.Link.{Link}
use Rattle.standard.specs.declared.Matrix.{Matrix}

-- the constants of lane i's chain
abbrev link_on : ℕ → List Float → Link
link_on at desk = record { rotation = cell 4 desk at; feedback = get_or desk (at + 8) nan }

unfoldable pub chain_on : ℕ → List Float → Chain
chain_on i desk = record { fractional = cell 4 desk i; first = link_on (8 + i) desk; second = link_on (20 + i) desk; third = link_on (32 + i) desk }

-- its coefficients at the border before, and their step to the next
abbrev matrix_from : ℕ → List Float → Matrix
matrix_from at desk = record { h11 = cell 4 desk at; h12 = cell 4 desk (at + 8); h21 = cell 4 desk (at + 16); h22 = cell 4 desk (at + 24) }

unfoldable pub from_on : ℕ → List Float → Matrix
from_on i desk = matrix_from (44 + i) desk

unfoldable pub step_on : ℕ → List Float → Matrix
step_on i desk = matrix_from (76 + i) desk

-- those of a slot: held, or t of the way
unfoldable pub matrix_on : Float → Bool → ℕ → List Float → Matrix
matrix_on t held i desk = cond held (from_on i desk) (stepped (from_on i desk) (step_on i desk) t)

-- its sample and ducking factor, and both sides
unfoldable pub sample_on : ℕ → List Float → Complex
sample_on i desk = cell 4 desk (108 + i)

unfoldable pub duck_on : ℕ → List Float → Float
duck_on i desk = get_or desk (116 + i) nan

unfoldable pub left_on : ℕ → List Float → Complex
left_on i desk = cell 4 desk (120 + i)

unfoldable pub right_on : ℕ → List Float → Complex
right_on i desk = cell 4 desk (128 + i)
