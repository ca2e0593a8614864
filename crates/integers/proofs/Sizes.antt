-- How large a sum, a difference or a multiple can be. A number n and its opposite less one, -(n + 1), have the size n, so that a range of bits is one bound. Assumes nothing.
use mathlib.Core.Path.{◌≡◌}
use mathlib.Core.Bool.{Bool, true, false, cond, true≢false}
use Prim.Native.Nat.{ℕ, zero, suc, ◌+◌, ◌*◌, ◌-◌, ◌≤◌, ◌<◌}
use native.Mathlib.Nat.{mul-suc}
use native.Mathlib.Omega.{arith}
use borrow.Author.Tests.{ltb-false}
use lib.Dec.{ltb}
use lib.IntN.{ℤ, pos, negsuc, sub_ℕ, neg_ℤ, ◌+ℤ◌, ◌-ℤ◌, ◌*ℤ◌}
use lib.Signed.{mag, lt_z}

-- ---- of a difference of naturals, and of the opposite of one
mag_pick : (t : Bool) (x y n : ℕ) → x ≤ n → y ≤ n → mag (cond t (negsuc x) (pos y)) ≤ n
mag_pick true x y n p q = p
mag_pick false x y n p q = q

pub mag_sub : (a b n : ℕ) → a ≤ n → b ≤ suc n → mag (sub_ℕ a b) ≤ n
mag_sub a b n p q = mag_pick (ltb a b) (b - suc a) (a - b) n (omega arith) (omega arith)

pub mag_neg : (r n : ℕ) → r ≤ suc n → mag (neg_ℤ (pos r)) ≤ n
mag_neg zero n h = omega arith
mag_neg (suc r) n h = omega arith

-- ---- of the four operations
pub mag_add : (a b : ℤ) → mag (a +ℤ b) ≤ suc (mag a + mag b)
mag_add (pos a) (pos b) = omega arith
mag_add (pos a) (negsuc b) = mag_sub a (suc b) (suc (a + b)) (omega arith) (omega arith)
mag_add (negsuc a) (pos b) = mag_sub b (suc a) (suc (a + b)) (omega arith) (omega arith)
mag_add (negsuc a) (negsuc b) = omega arith

pub mag_minus : (a b : ℤ) → mag (a -ℤ b) ≤ suc (mag a + mag b)
mag_minus (pos a) (pos zero) = omega arith
mag_minus (pos a) (pos (suc b)) = mag_sub a (suc b) (suc (a + suc b)) (omega arith) (omega arith)
mag_minus (pos a) (negsuc b) = omega arith
mag_minus (negsuc a) (pos zero) = mag_sub 0 (suc a) (suc (a + 0)) (omega arith) (omega arith)
mag_minus (negsuc a) (pos (suc b)) = omega arith
mag_minus (negsuc a) (negsuc b) = mag_sub (suc b) (suc a) (suc (a + b)) (omega arith) (omega arith)

-- a number of times, which is less than a product of two unknowns
pub mag_scaled : (n : ℕ) (z : ℤ) → mag (pos n *ℤ z) ≤ n * mag z + (n - 1)
mag_scaled n (pos a) = omega arith
mag_scaled n (negsuc a) = mag_neg (n * suc a) (n * a + (n - 1)) (omega (arith, mul-suc n a))

-- ---- of a number that is not below lo and not above hi
pub between : (lo hi z : ℤ) (n : ℕ) → lt_z z lo ≡ false → lt_z hi z ≡ false → mag lo < n → mag hi < n → mag z < n
between lo (pos h) (pos z) n p q a b = omega (arith, ltb-false h z q)
between lo (negsuc h) (pos z) n p q a b = absurd (true≢false q)
between (pos l) hi (negsuc z) n p q a b = absurd (true≢false p)
between (negsuc l) hi (negsuc z) n p q a b = omega (arith, ltb-false l z p)
