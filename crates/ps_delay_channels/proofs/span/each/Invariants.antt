use Prim.Native.Nat.{◌-◌}
use Rattle.ps_delay_channels.proofs.Spans.{Spanning}
use Rattle.ps_delay_channels.proofs.span.each.Given as goal

abbrev pub invariant-loop-k : goal.invariant-loop-k
invariant-loop-k l = Spanning l.common.timing l.lent.input.now l.lent.gains.now l.lent.rows.now l.common.before.now l.map l.delay l.start l.k l.initial.left l.initial.right l.left l.right

abbrev pub decreases-loop-k : goal.decreases-loop-k
decreases-loop-k l = l.end - l.k
