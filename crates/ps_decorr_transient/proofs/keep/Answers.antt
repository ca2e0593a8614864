-- `ps_decorr_transient::keep` meets its contract: three stores. Assumes nothing.
use native.Mathlib.Omega.{arith}
use lib.ListN.{length-set}
use Rattle.ps_decorr_transient.specs.Rows.{detector_in}
use Rattle.ps_decorr_transient.proofs.Detectors.{detected_one}
use Rattle.ps_decorr_transient.proofs.keep.Goals as goal

pub bounds-detectors-b-2 : goal.bounds-detectors-b-2
bounds-detectors-b-2 c = simp length-set (omega arith)

pub bounds-detectors-b-3 : goal.bounds-detectors-b-3
bounds-detectors-b-3 c = simp length-set (omega arith)

pub returns : goal.returns
returns c = detected_one c.args.detectors.now c.args.b (detector_in c.args.last) (omega arith)
