use mathlib.Core.Path.{◌≡◌}
use Prim.Native.Nat.{◌*◌, ◌≤◌, ◌-◌}
use Rattle.planar.specs.Cells.{cell}
use Rattle.standard.specs.Hybrid.{added_to}
use Rattle.plain_slots.proofs.added.Given as goal

abbrev pub invariant-loop-i : goal.invariant-loop-i
invariant-loop-i l = (l.i ≤ l.count) × (l.sum ≡ added_to (λ k. cell 1 l.hybrid (2 * k)) l.from l.i)

abbrev pub decreases-loop-i : goal.decreases-loop-i
decreases-loop-i l = l.count - l.i
