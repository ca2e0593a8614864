-- `decimals::Prototype::taps` meets its contract: the float that each literal stands for is the one nearest to the decimal. Assumes nothing.
use mathlib.Core.Path.{refl}
use borrow.Author.Rules.{rules}
use lib.Ieee
use Rattle.decimals.specs.Prototypes.{prototype_of, g0q8, g12q2, g0q12, g1q8, g234q4}
use Rattle.decimals.proofs.Prototype.taps.Goals as goal

pub returns-in-EighthsOfBand0 : goal.returns-in-EighthsOfBand0
unfolding prototype_of g0q8 Ieee.round Ieee.units Ieee.odd Ieee.size Ieee.climb Ieee.span Ieee.of_bits Ieee.of_fields Ieee.neg
returns-in-EighthsOfBand0 c = rw c.in-EighthsOfBand0.is refl

pub returns-in-Halves : goal.returns-in-Halves
unfolding prototype_of g12q2 Ieee.round Ieee.units Ieee.odd Ieee.size Ieee.climb Ieee.span Ieee.of_bits Ieee.of_fields Ieee.neg
returns-in-Halves c = rw c.in-Halves.is refl

pub returns-in-Twelfths : goal.returns-in-Twelfths
unfolding prototype_of g0q12 Ieee.round Ieee.units Ieee.odd Ieee.size Ieee.climb Ieee.span Ieee.of_bits Ieee.of_fields Ieee.neg
returns-in-Twelfths c = rw c.in-Twelfths.is refl

pub returns-in-EighthsOfBand1 : goal.returns-in-EighthsOfBand1
unfolding prototype_of g1q8 Ieee.round Ieee.units Ieee.odd Ieee.size Ieee.climb Ieee.span Ieee.of_bits Ieee.of_fields Ieee.neg
returns-in-EighthsOfBand1 c = rw c.in-EighthsOfBand1.is refl

pub returns-in-Quarters : goal.returns-in-Quarters
unfolding prototype_of g234q4 Ieee.round Ieee.units Ieee.odd Ieee.size Ieee.climb Ieee.span Ieee.of_bits Ieee.of_fields Ieee.neg
returns-in-Quarters c = rw c.in-Quarters.is refl
