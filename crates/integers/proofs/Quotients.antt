-- The code's division by a natural is the division toward zero, and its result is small where the dividend is. Assumes nothing.
use mathlib.Core.Path.{◌≡◌, refl}
use Prim.Native.Nat.{ℕ, suc, ◌*◌, ◌-◌, ◌/◌, ◌<◌}
use native.Mathlib.Nat.{div-lt_iff_lt-mul, suc-mul}
use native.Mathlib.Omega.{arith}
use lib.IntN.{ℤ, pos, negsuc}
use lib.Signed.{mag, quot_z}
use Rattle.integers.specs.Integers.{to_zero}
use Rattle.integers.proofs.Sizes.{mag_neg}

pub quot_is : (z : ℤ) (n : ℕ) → quot_z z (pos n) ≡ to_zero z n
quot_is (pos a) n = refl
quot_is (negsuc a) n = refl

-- one law for every divisor: k is the bound of the quotient, k * n that of the dividend
pub small : (z : ℤ) (n k : ℕ) → 0 < n → 0 < k → mag z < k * n → mag (quot_z z (pos n)) < k
small (pos a) n k p q h = (div-lt_iff_lt-mul p).1 h
small (negsuc a) n k p q h =
    let less : suc a / n < suc k = (div-lt_iff_lt-mul {k = n} {x = suc a} {y = suc k} p).1 (omega (arith, suc-mul k n)) in
    omega (arith, mag_neg (suc a / n) (k - 1) (omega arith))
