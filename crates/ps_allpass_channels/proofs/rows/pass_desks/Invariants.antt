use mathlib.Core.List.{List}
use Prim.Native.Nat.{ℕ, ◌+◌, ◌-◌, ◌*◌, ◌/◌, ◌%◌, ◌≤◌}
use lib.Ieee.{Float}
use Rattle.complex.specs.declared.Complex.{Complex}
use Rattle.planar.specs.Cells.{cell}
use Rattle.ps_allpass_channels.specs.Desks.{Rowed}
use Rattle.ps_allpass_channels.proofs.rows.pass_desks.Given as goal

-- the band of a channel, on its own desk
abbrev pub lined : List Float → ℕ → ℕ → Complex
lined desks first q = cell 4 desks (first + 136 * ((q - 5) / 4) + (q - 5) % 4)

pub record Inv (value : ℕ → Complex) (row₀ row : List Float) (j : ℕ) : Type 0 where
  pub within : j ≤ 4
  pub rowed : Rowed value 5 (4 * j + 5) row₀ row

abbrev pub invariant-loop-j : goal.invariant-loop-j
invariant-loop-j l = Inv (lined l.desks l.first) l.initial.row l.row l.j

abbrev pub decreases-loop-j : goal.decreases-loop-j
decreases-loop-j l = 4 - l.j
