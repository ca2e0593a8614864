-- The floats that the code's literals 0.0 and 1.0 stand for are those of the definitions. Assumes nothing.
use mathlib.Core.Path.{◌≡◌, refl}
use lib.Ieee.{binary64, of_bits}
use Rattle.standard.specs.Numbers as numbers

pub zero_is : of_bits binary64 0 ≡ numbers.zero
unfolding of_bits
zero_is = refl

pub one_is : of_bits binary64 4607182418800017408 ≡ numbers.one
unfolding of_bits
one_is = refl
