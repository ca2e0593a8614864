-- `ps_decorr_transient::factor` meets its contract: the share is the definition's. Assumes nothing.
use Rattle.ps_decorr_transient.specs.Rows.{detector_in}
use Rattle.ps_decorr_transient.proofs.Slots.{ducked}
use Rattle.ps_decorr_transient.proofs.factor.Goals as goal

pub returns : goal.returns
returns c =
    ducked c.detector-factors.result c.detector-factors.ensures (detector_in c.args.now) c.share.result c.share.ensures
