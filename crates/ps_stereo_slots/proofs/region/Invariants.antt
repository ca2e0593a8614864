use mathlib.Core.Logic.{◌⊎◌}
use Prim.Native.Nat.{◌≤◌, ◌-◌}
use lib.Ieee.{nan}
use lib.ListN.{get_or}
use Rattle.ps_stereo_slots.specs.Regions.{stepped, Written}
use Rattle.ps_stereo_slots.proofs.region.Given as goal

abbrev pub invariant-loop-n : goal.invariant-loop-n
invariant-loop-n l = (l.first ≤ l.n) × ((l.n ≤ l.first) ⊎ (l.n ≤ l.end)) × Written l.first l.n (λ j. stepped l.from l.way (get_or l.fractions j nan)) l.initial.out l.out

abbrev pub decreases-loop-n : goal.decreases-loop-n
decreases-loop-n l = l.end - l.n
