-- The floats that the code's literals stand for are the whole numbers of the definitions. Assumes nothing.
use mathlib.Core.Path.{◌≡◌, refl}
use lib.Ieee
use lib.Ieee.{binary64, of_bits}
use Rattle.ps_map.specs.Maps.{whole}

pub none : of_bits binary64 0 ≡ whole 0
unfolding Ieee.of_int Ieee.round Ieee.units Ieee.odd Ieee.size Ieee.climb Ieee.span Ieee.of_bits Ieee.of_fields
none = refl

pub two : of_bits binary64 4611686018427387904 ≡ whole 2
unfolding Ieee.of_int Ieee.round Ieee.units Ieee.odd Ieee.size Ieee.climb Ieee.span Ieee.of_bits Ieee.of_fields
two = refl

pub three : of_bits binary64 4613937818241073152 ≡ whole 3
unfolding Ieee.of_int Ieee.round Ieee.units Ieee.odd Ieee.size Ieee.climb Ieee.span Ieee.of_bits Ieee.of_fields
three = refl

pub four : of_bits binary64 4616189618054758400 ≡ whole 4
unfolding Ieee.of_int Ieee.round Ieee.units Ieee.odd Ieee.size Ieee.climb Ieee.span Ieee.of_bits Ieee.of_fields
four = refl
