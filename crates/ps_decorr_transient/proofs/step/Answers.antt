-- `ps_decorr_transient::step` meets its contract: its operations are the definition's. Assumes nothing.
use Rattle.ps_decorr_transient.specs.Rows.{detector_in}
use Rattle.ps_decorr_transient.proofs.Slots.{slot}
use Rattle.ps_decorr_transient.proofs.step.Goals as goal

pub returns : goal.returns
returns c =
    let s = c.args in
    slot c.detector-factors.result c.detector-factors.ensures (detector_in s.now) s.power c.larger-peak.result c.larger-peak.ensures
