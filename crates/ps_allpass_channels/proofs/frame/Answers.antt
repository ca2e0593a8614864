-- `ps_allpass_channels::frame` meets its contract: the constants are laid, all slots run, and the free lanes are silenced. Assumes nothing.
use mathlib.Core.Path.{◌∙◌}
use Rattle.ps_allpass_channels.proofs.Ending.{framed}
use Rattle.ps_allpass_channels.proofs.frame.Goals as goal

pub returns : goal.returns
returns c =
    let a = c.args in
    let p = framed a.lent.layout a.timing a.table.now a.lent.samples.now a.lent.gains.now a.lent.rows.now a.lent.input.now a.delays.now a.left.now a.right.now _ _ _
    c.requires.room (c.run.ensures a.table.now c.lay.ensures) in
    record { left = p.0; right = p.1.0; delays = c.silence_free.ensures ∙ p.1.1 }
