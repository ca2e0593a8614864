-- `ps_allpass_channels::rows::add_four` meets its contract: the four lanes are added one after the other. Assumes nothing.
use mathlib.Core.Path.{◌∙◌, ap, ap₂}
use Rattle.complex.specs.Operations.{sum}
use Rattle.ps_allpass_channels.proofs.rows.add_four.Goals as goal

pub returns : goal.returns
returns c =
    let a = c.args in
    c.add-4.ensures
    ∙ ap₂ sum
    (c.add-3.ensures
    ∙ ap₂ sum
    (c.add-2.ensures
    ∙ ap₂ sum
    (c.add.ensures ∙ ap (sum a.start) c.lane-a.ensures)
    c.lane-b.ensures)
    c.lane-c.ensures)
    c.lane-d.ensures
