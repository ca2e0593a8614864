-- `ps_input::input_answer` meets its contract: each return is the case that its two answers pick. Assumes nothing.
use mathlib.Core.Path.{sym, ◌∙◌}
use lib.Seq.{length-take-le}
use Rattle.ps_input.proofs.Answers.{fit_room, refused_buffers, accepted, refused_sample}
use Rattle.ps_input.proofs.input_answer.Goals as goal

pub returns-then-not-buffers_fit : goal.returns-then-not-buffers_fit
returns-then-not-buffers_fit c =
    let a = c.args in
    rw (← c.slots-slots.ensures)
    (refused_buffers c.slots-slots.result a.input.now a.left a.right c.buffers_fit.result c.buffers_fit.ensures (c.if-not-buffers_fit.true))

pub slice_bounds-samples_fit-end : goal.slice_bounds-samples_fit-end
slice_bounds-samples_fit-end c =
    let a = c.args in
    sym (length-take-le _ a.input.now (fit_room c.slots-slots.result _ a.left a.right (sym c.buffers_fit.ensures ∙ c.if-not-buffers_fit.false)))

pub returns-then-samples_fit : goal.returns-then-samples_fit
returns-then-samples_fit c =
    let a = c.args in
    rw (← c.slots-slots.ensures)
    (accepted c.slots-slots.result a.input.now a.left a.right c.buffers_fit.result c.buffers_fit.ensures c.if-not-buffers_fit.false c.samples_fit.result c.samples_fit.ensures c.if-samples_fit.true)

pub returns-else-samples_fit : goal.returns-else-samples_fit
returns-else-samples_fit c =
    let a = c.args in
    rw (← c.slots-slots.ensures)
    (refused_sample c.slots-slots.result a.input.now a.left a.right c.buffers_fit.result c.buffers_fit.ensures c.if-not-buffers_fit.false c.samples_fit.result c.samples_fit.ensures c.if-samples_fit.false)
