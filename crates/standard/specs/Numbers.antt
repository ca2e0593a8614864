-- Floats of 64 bits and complex numbers of them, each operation rounded once. Assumes nothing.
use Rattle.std.specs.Prelude.{ℕ, false, ℤ, pos, negsuc, Float}
use Rattle.std.specs.Float.{fin, binary64}
use Rattle.std.specs.Float.Ieee.{add, sub, mul, div, of_int}
use Rattle.complex.specs.declared.Complex.{Complex}

abbrev pub zero : Float
zero = fin false 0 (pos 0)

abbrev pub one : Float
one = fin false 1 (pos 0)

-- a whole number as a float
abbrev pub whole : ℕ → Float
whole n = of_int binary64 (pos n)

unfoldable pub ◌⊕◌ : Float → Float → Float
x ⊕ y = add binary64 x y

unfoldable pub ◌⊖◌ : Float → Float → Float
x ⊖ y = sub binary64 x y

unfoldable pub ◌⊗◌ : Float → Float → Float
x ⊗ y = mul binary64 x y

unfoldable pub ◌⊘◌ : Float → Float → Float
x ⊘ y = div binary64 x y

infixl 60 ◌⊕◌
infixl 60 ◌⊖◌
infixl 70 ◌⊗◌
infixl 70 ◌⊘◌
-- complex 0
abbrev pub nought : Complex
nought = record { re = zero; im = zero }

-- a whole number that is not negative; 0 for one that is
abbrev pub natural_of : ℤ → ℕ
natural_of (pos n) = n
natural_of (negsuc n) = 0
