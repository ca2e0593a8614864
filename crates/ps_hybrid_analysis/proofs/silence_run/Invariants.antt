use Prim.Native.Nat.{◌-◌}
use Rattle.standard.specs.Numbers.{nought}
use Rattle.ps_hybrid_analysis.proofs.Runs.{Filling}
use Rattle.ps_hybrid_analysis.proofs.silence_run.Given as goal

abbrev pub invariant-loop-n : goal.invariant-loop-n
invariant-loop-n l = Filling 32 l.count (λ i. nought) l.initial.run l.run l.n

abbrev pub decreases-loop-n : goal.decreases-loop-n
decreases-loop-n l = l.count - l.n
