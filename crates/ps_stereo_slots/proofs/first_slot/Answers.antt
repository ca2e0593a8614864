-- `ps_stereo_slots::first_slot` meets its contract: but for the first envelope it is the slot after a border. Assumes nothing.
use mathlib.Core.Path.{sym, ◌∙◌}
use native.Mathlib.Numerals.{add-one}
use Rattle.ps_stereo_slots.proofs.Borders.{start_after}
use Rattle.ps_stereo_slots.proofs.first_slot.Goals as goal

pub returns : goal.returns
returns c =
    let s = c.args in
    (c.after.ensures.0 ∙ add-one _ ∙ sym (start_after s.borders s.e c.if-e-eq0.false), c.after.ensures.1)
