-- `queue_decorr::switched` meets its contract: a state of the layout stays, any other is silent. Assumes nothing.
use mathlib.Core.Path.{sym, ap, ◌∙◌}
use Rattle.ps_state.proofs.Layouts.{equal_is}
use Rattle.queue_decorr.specs.declared.QueueDecorr.{QueueDecorr}
use Rattle.queue_decorr.specs.State.{switched_queues}
use Rattle.queue_decorr.proofs.switched.Goals as goal

pub returns-then-eq : goal.returns-then-eq
unfolding switched_queues
returns-then-eq c = rw (sym (equal_is c.args.state.layout c.args.layout c.eq.ensures) ∙ c.if-eq.true)

pub returns : goal.returns
unfolding switched_queues
returns c =
    let a = c.args in
    rw (sym (equal_is a.state.layout a.layout c.eq.ensures) ∙ c.if-eq.false)
    (ap (λ (s : QueueDecorr). record { layout = a.layout; cued = a.state.cued; queues = s.queues; detectors = s.detectors }) c.fresh.ensures)
