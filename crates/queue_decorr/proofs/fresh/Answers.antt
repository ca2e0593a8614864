-- `queue_decorr::fresh` meets its contract: the code's 0.0 is zero. Assumes nothing.
use mathlib.Core.Bool.{false}
use mathlib.Core.Path.{ap}
use lib.Ieee.{Float}
use lib.ListN.{replicate}
use Rattle.layout.specs.declared.Layout.TheVariants.{Bands20}
use Rattle.standard.proofs.Literals.{zero_is}
use Rattle.queue_decorr.specs.declared.QueueDecorr.{QueueDecorr}
use Rattle.queue_decorr.proofs.fresh.Goals as goal

-- a state that holds one value everywhere
abbrev filled : Float → QueueDecorr
filled z = record { layout = Bands20; cued = false; queues = replicate 1794 z; detectors = replicate 102 z }

pub returns : goal.returns
returns c = ap filled zero_is
