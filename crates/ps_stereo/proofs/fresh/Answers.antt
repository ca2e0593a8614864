-- `ps_stereo::fresh` meets its contract: the code's 0.0 is zero. Assumes nothing.
use mathlib.Core.Path.{ap}
use lib.Ieee.{Float}
use lib.IntN.{pos}
use lib.ListN.{replicate}
use Rattle.ps_stereo.specs.declared.PsStereo.{PsStereo}
use Rattle.standard.proofs.Literals.{zero_is}
use Rattle.ps_stereo.proofs.fresh.Goals as goal

-- a state whose coefficients are all of one value
abbrev filled : Float → PsStereo
filled z = record { matrices = replicate 272 z; phases = replicate 136 (pos 0) }

pub returns : goal.returns
returns c = ap filled zero_is
