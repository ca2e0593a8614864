use mathlib.Core.List.{List}
use Prim.Native.Nat.{ℕ, ◌-◌, ◌≤◌}
use lib.Ieee.{Float}
use Rattle.standard.specs.Mixing.{left_of, right_of}
use Rattle.planar.proofs.Pairs.{Paired}
use Rattle.ps_delay_channels.proofs.Slots.{weighing}
use Rattle.ps_delay_channels.proofs.rows.weigh.Given as goal

pub record Inv (runs : List Float) (n : ℕ) (factor : Float) (count : ℕ) (samples delayed left₀ right₀ left right : List Float) (j : ℕ) : Type 0 where
  pub within : j ≤ count
  pub lefts : Paired (weighing left_of runs n factor samples delayed) j left₀ left
  pub rights : Paired (weighing right_of runs n factor samples delayed) j right₀ right

abbrev pub invariant-loop-j : goal.invariant-loop-j
invariant-loop-j l = Inv l.runs l.n l.factor l.count l.samples l.delayed l.initial.left l.initial.right l.left l.right l.j

abbrev pub decreases-loop-j : goal.decreases-loop-j
decreases-loop-j l = l.count - l.j
