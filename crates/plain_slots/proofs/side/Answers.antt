-- `plain_slots::side` meets its contract: what the calls give, put together. Assumes nothing.
use mathlib.Core.Path.{◌∙◌, ap, ap₂}
use Rattle.complex.specs.declared.Complex.{Complex}
use Rattle.complex.specs.Operations.{product, sum}
use Rattle.standard.specs.Mixing.{taken}
use Rattle.plain_slots.proofs.side.Goals as goal

pub returns : goal.returns
returns c =
    let a = c.args in
    c.add.ensures
    ∙ ap₂ sum
    (c.mul.ensures ∙ ap (λ (h : Complex). product h a.s) (c.taken-a.ensures ∙ ap (taken a.marked) c.cell.ensures))
    (c.mul-2.ensures ∙ ap (λ (h : Complex). product h a.d) (c.taken-b.ensures ∙ ap (taken a.marked) c.cell-2.ensures))
