-- The float that the code's limit stands for is the definition's, and a test of a sample by it is the definition's test. Assumes nothing.
use mathlib.Core.Path.{◌≡◌, refl}
use mathlib.Core.Bool.{◌&&◌}
use lib.Ieee
use lib.Ieee.{Float, binary64, of_bits, le, neg}
use Rattle.standard.specs.Numbers.{whole}
use Rattle.calls.specs.Call.{sample_fits}

limit_is : of_bits binary64 4697254411347427328 ≡ whole 1048576
unfolding Ieee.of_int Ieee.round Ieee.units Ieee.odd Ieee.size Ieee.climb Ieee.span Ieee.of_bits Ieee.of_fields
limit_is = refl

pub sample_tested : (x : Float) → le x (of_bits binary64 4697254411347427328) && le (neg (of_bits binary64 4697254411347427328)) x ≡ sample_fits x
sample_tested x = rw limit_is
