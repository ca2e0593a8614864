use Prim.Native.Nat.{◌-◌}
use Rattle.ps_delay_channels.proofs.Keeping.{Keeping}
use Rattle.ps_delay_channels.proofs.memory.keep_long.Given as goal

abbrev pub invariant-loop-n : goal.invariant-loop-n
invariant-loop-n l = Keeping l.position l.slots l.input l.initial.long l.long l.n

abbrev pub decreases-loop-n : goal.decreases-loop-n
decreases-loop-n l = l.slots - l.n
