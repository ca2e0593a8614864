use Rattle.queue_decorr.proofs.Turns.{Going}
use Rattle.queue_decorr.proofs.channels.slot.Given as goal

abbrev pub invariant-loop-k : goal.invariant-loop-k
invariant-loop-k l = Going l.frame.layout l.n l.samples l.frame.gains.now l.initial.queues l.frame.table.now l.initial.row l.map l.k-end l.queues l.row l.at l.k
