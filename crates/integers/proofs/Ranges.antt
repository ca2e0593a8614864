-- A clamp, a wrap and a byte stay in their ranges, and each is what the code's tests pick. Assumes nothing.
use mathlib.Core.Path.{◌≡◌, refl, ap, subst}
use mathlib.Core.Bool.{Bool, true, false, cond}
use Prim.Native.Nat.{ℕ, ◌-◌, ◌%◌, ◌<◌}
use native.Mathlib.Nat.{le_refl}
use native.Mathlib.Omega.{arith}
use borrow.Author.Tests.{le-ltb, lt-ltb}
use lib.IntN.{ℤ, pos, negsuc}
use lib.Signed.{mag, lt_z}
use mir.Syntax.{w8}
use mir.Val.{to_z}
use mir.Facts.{sfits_to_z}
use Rattle.integers.specs.Integers.{byte_z, clamp_z, wrap_z}
use Rattle.integers.proofs.Signs.{not_negative, negative}

-- ---- clamp
-- what holds of lo, of hi and of a number between them holds of a clamp
clamped : (P : ℤ → Type 0) (lo hi z : ℤ) → P lo → P hi → (lt_z z lo ≡ false → lt_z hi z ≡ false → P z) → P (clamp_z lo hi z)
clamped P lo hi z a b c = go (lt_z z lo) (lt_z hi z) c
  where
    go : (t u : Bool) → (t ≡ false → u ≡ false → P z) → P (cond t lo (cond u hi z))
    go true u c = a
    go false true c = b
    go false false c = c refl refl

not_below_itself : (z : ℤ) → lt_z z z ≡ false
not_below_itself (pos n) = le-ltb n n (le_refl n)
not_below_itself (negsuc n) = le-ltb n n (le_refl n)

module _ (lo hi z : ℤ) where
  -- no less than lo, and no more than hi, where those two are in order
  pub clamp_low : lt_z hi lo ≡ false → lt_z (clamp_z lo hi z) lo ≡ false
  clamp_low h = clamped (λ (y : ℤ). lt_z y lo ≡ false) lo hi z (not_below_itself lo) h (λ p q. p)

  pub clamp_high : lt_z hi lo ≡ false → lt_z hi (clamp_z lo hi z) ≡ false
  clamp_high h = clamped (λ (y : ℤ). lt_z hi y ≡ false) lo hi z h (not_below_itself hi) (λ p q. q)

-- ---- wrap: the remainder, by the sign; never negative, and below 8
pub wrap_negative : (z : ℤ) → lt_z z (pos 0) ≡ true → wrap_z z ≡ pos (7 - mag z % 8)
wrap_negative z h = ap wrap_z (negative z h)

pub wrap_not_negative : (z : ℤ) → lt_z z (pos 0) ≡ false → wrap_z z ≡ pos (mag z % 8)
wrap_not_negative z h = ap wrap_z (not_negative z h)

pub wrap_low : (z : ℤ) → lt_z (wrap_z z) (pos 0) ≡ false
wrap_low (pos n) = le-ltb (n % 8) 0 (omega arith)
wrap_low (negsuc n) = le-ltb (7 - n % 8) 0 (omega arith)

-- ---- byte: a cast of a u8 to an i8
pub byte_is : (d : ℕ) → d < 256 → to_z w8 d ≡ byte_z d
byte_is d h = simp (lt-ltb d 256 h)

pub mag_byte : (d : ℕ) → d < 256 → mag (byte_z d) < 128
mag_byte d h = subst (λ (z : ℤ). mag z < 128) (byte_is d h) (sfits_to_z {w = w8} (record { fits = h })).sfits
