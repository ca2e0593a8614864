use mathlib.Core.List.{List}
use Prim.Native.Nat.{ℕ, ◌-◌, ◌≤◌}
use lib.Ieee.{Float}
use Rattle.standard.specs.Mixing.{left_of, right_of}
use Rattle.ps_delay_channels.specs.declared.rows.Delay.{Delay}
use Rattle.ps_delay_channels.proofs.Bands.{Banding, mixing}
use Rattle.ps_delay_channels.proofs.rows.bands.Given as goal

pub record Inv (runs gains input before : List Float) (d : Delay) (from count slots : ℕ) (left₀ right₀ left right : List Float) (n : ℕ) : Type 0 where
  pub reached : n ≤ slots
  pub lefts : Banding from count slots (mixing left_of runs gains input before d from count slots) left₀ left n
  pub rights : Banding from count slots (mixing right_of runs gains input before d from count slots) right₀ right n

abbrev pub invariant-loop-n : goal.invariant-loop-n
invariant-loop-n l = Inv l.runs l.lent.gains.now l.lent.input.now l.span.before.now l.delay l.from l.count l.slots l.initial.left l.initial.right l.left l.right l.n

abbrev pub decreases-loop-n : goal.decreases-loop-n
decreases-loop-n l = l.slots - l.n
