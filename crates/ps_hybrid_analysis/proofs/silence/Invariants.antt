use Prim.Native.Nat.{◌-◌}
use Rattle.standard.specs.Numbers.{nought}
use Rattle.ps_hybrid_analysis.proofs.Channels.{Writing}
use Rattle.ps_hybrid_analysis.proofs.silence.Given as goal

abbrev pub invariant-loop-k : goal.invariant-loop-k
invariant-loop-k l = Writing l.slots.count l.from l.to (λ k n. nought) l.initial.samples l.samples l.k

abbrev pub decreases-loop-k : goal.decreases-loop-k
decreases-loop-k l = l.to - l.k
