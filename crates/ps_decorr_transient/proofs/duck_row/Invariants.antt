use mathlib.Core.Path.{◌≡◌}
use Prim.Native.Nat.{◌≤◌, ◌+◌, ◌-◌}
use Rattle.ps_decorr_transient.specs.Rows.{Rowed, detector_in, state_of}
use Rattle.ps_decorr_transient.proofs.Slots.{factor_of}
use Rattle.ps_decorr_transient.proofs.duck_row.Given as goal

abbrev pub invariant-loop-n : goal.invariant-loop-n
invariant-loop-n l = (l.n ≤ l.slots) × (detector_in l.one ≡ state_of l.detectors l.initial.gains l.n l.b) × Rowed l.b (l.b + 1) l.n (factor_of l.detectors l.initial.gains) l.initial.gains l.gains

abbrev pub decreases-loop-n : goal.decreases-loop-n
decreases-loop-n l = l.slots - l.n
