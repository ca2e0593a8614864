use mathlib.Core.Path.{◌≡◌}
use lib.ListN.{length}
use Rattle.queue_decorr.proofs.Slots.{Done}
use Rattle.queue_decorr.proofs.channels.slots.Given as goal

abbrev pub invariant-loop-n : goal.invariant-loop-n
invariant-loop-n l = Done l.frame.layout l.frame.split.now l.frame.input.now l.frame.gains.now l.initial.queues l.initial.out l.frame.slots l.queues l.out l.n × (length l.samples ≡ 182)
