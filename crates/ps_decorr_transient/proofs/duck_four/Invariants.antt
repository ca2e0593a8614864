use mathlib.Core.Path.{◌≡◌}
use mathlib.Core.List.{List}
use Prim.Native.Nat.{ℕ, ◌≤◌, ◌+◌, ◌-◌}
use lib.Ieee.{Float}
use Rattle.ps_decorr_transient.specs.declared.Follower.{Follower}
use Rattle.ps_decorr_transient.specs.Rows.{Rowed, detector_in, state_of}
use Rattle.ps_decorr_transient.proofs.Slots.{factor_of}
use Rattle.ps_decorr_transient.proofs.duck_four.Given as goal

pub record Inv (slots b n : ℕ) (memory gains₀ gains : List Float) (first second third fourth : Follower) : Type 0 where
  pub within : n ≤ slots
  pub one : detector_in first ≡ state_of memory gains₀ n b
  pub two : detector_in second ≡ state_of memory gains₀ n (b + 1)
  pub three : detector_in third ≡ state_of memory gains₀ n (b + 2)
  pub four : detector_in fourth ≡ state_of memory gains₀ n (b + 3)
  pub rows : Rowed b (b + 4) n (factor_of memory gains₀) gains₀ gains

abbrev pub invariant-loop-n : goal.invariant-loop-n
invariant-loop-n l = Inv l.slots l.b l.n l.detectors l.initial.gains l.gains l.first l.second l.third l.fourth

abbrev pub decreases-loop-n : goal.decreases-loop-n
decreases-loop-n l = l.slots - l.n
