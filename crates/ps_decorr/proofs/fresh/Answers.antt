-- `ps_decorr::fresh` meets its contract: the code's 0.0 is zero. Assumes nothing.
use mathlib.Core.Path.{ap}
use lib.Ieee.{Float}
use lib.ListN.{replicate}
use Rattle.ps_decorr.specs.declared.PsDecorr.{PsDecorr}
use Rattle.standard.proofs.Literals.{zero_is}
use Rattle.ps_decorr.proofs.fresh.Goals as goal

-- a state that holds one value everywhere
abbrev filled : Float → PsDecorr
filled z = record { turn = 0; delays = replicate 1456 z; plain = replicate 394 z; detectors = replicate 102 z }

pub returns : goal.returns
returns c = ap filled zero_is
