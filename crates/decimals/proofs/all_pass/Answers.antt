-- `decimals::all_pass` meets its contract: the float that each literal stands for is the one nearest to the decimal. Assumes nothing.
use mathlib.Core.Path.{refl}
use lib.Ieee
use Rattle.decimals.specs.Decorrelation.{all_pass}
use Rattle.decimals.proofs.all_pass.Goals as goal

pub returns : goal.returns
unfolding all_pass Ieee.round Ieee.units Ieee.odd Ieee.size Ieee.climb Ieee.span Ieee.of_bits Ieee.of_fields Ieee.neg
returns c = refl
