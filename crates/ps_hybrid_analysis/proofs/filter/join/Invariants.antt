use Prim.Native.Nat.{◌-◌}
use Rattle.complex.specs.Operations.{sum}
use Rattle.planar.specs.Cells.{cell}
use Rattle.ps_hybrid_analysis.proofs.Runs.{Filling}
use Rattle.ps_hybrid_analysis.proofs.Taps.{convolved}
use Rattle.ps_hybrid_analysis.proofs.filter.join.Given as goal

abbrev pub invariant-loop-n : goal.invariant-loop-n
invariant-loop-n l = Filling 32 l.band.slots.count (λ i. sum (cell 32 l.initial.run i) (convolved (cell 13 l.taps) (cell 44 l.band.run.now) i 13)) l.initial.run l.run l.n

abbrev pub decreases-loop-n : goal.decreases-loop-n
decreases-loop-n l = l.band.slots.count - l.n
