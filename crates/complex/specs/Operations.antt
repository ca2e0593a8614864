-- The complex operations of document 01, 'Sound': a product is (ac - bd, ad + bc), a real factor scales both parts, and each float operation is
-- rounded once. Assumes nothing.
use Rattle.std.specs.Prelude.{Float}
use Rattle.std.specs.Float.{binary64}
use Rattle.std.specs.Float.Ieee.{add, sub, mul, neg}
use Rattle.complex.specs.declared.Complex.{Complex}

-- (a, b) (c, d) = (ac - bd, ad + bc)
abbrev pub product : Complex → Complex → Complex
product x y =
    record {
      re = sub binary64 (mul binary64 x.re y.re) (mul binary64 x.im y.im);
      im = add binary64 (mul binary64 x.re y.im) (mul binary64 x.im y.re);
    }

abbrev pub sum : Complex → Complex → Complex
sum x y = record { re = add binary64 x.re y.re; im = add binary64 x.im y.im }

abbrev pub difference : Complex → Complex → Complex
difference x y = record { re = sub binary64 x.re y.re; im = sub binary64 x.im y.im }

abbrev pub conjugate : Complex → Complex
conjugate x = record { re = x.re; im = neg x.im }

abbrev pub scaled : Complex → Float → Complex
scaled x factor = record { re = mul binary64 x.re factor; im = mul binary64 x.im factor }

-- re² + im²
abbrev pub squared_magnitude : Complex → Float
squared_magnitude x = add binary64 (mul binary64 x.re x.re) (mul binary64 x.im x.im)
