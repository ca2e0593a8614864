-- `decimals::detector` meets its contract: the float that each literal stands for is the one nearest to the decimal. Assumes nothing.
use mathlib.Core.Path.{refl}
use lib.Ieee
use Rattle.decimals.specs.Decorrelation.{detector_factors}
use Rattle.decimals.proofs.detector.Goals as goal

pub returns : goal.returns
unfolding detector_factors Ieee.round Ieee.units Ieee.odd Ieee.size Ieee.climb Ieee.span Ieee.of_bits Ieee.of_fields Ieee.neg
returns c = refl
