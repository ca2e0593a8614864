use mathlib.Core.Logic.{◌⊎◌}
use Prim.Native.Nat.{◌≤◌, ◌-◌}
use Rattle.ps_stereo_slots.specs.Regions.{Written}
use Rattle.ps_stereo_slots.proofs.hold.Given as goal

abbrev pub invariant-loop-n : goal.invariant-loop-n
invariant-loop-n l = (l.first ≤ l.n) × ((l.n ≤ l.first) ⊎ (l.n ≤ l.end)) × Written l.first l.n (λ j. l.h) l.initial.out l.out

abbrev pub decreases-loop-n : goal.decreases-loop-n
decreases-loop-n l = l.end - l.n
