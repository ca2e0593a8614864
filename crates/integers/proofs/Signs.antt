-- A number's sign, by the test that the code makes, says which of the two forms it has. Assumes nothing.
use mathlib.Core.Path.{◌≡◌, refl, ap, sym, ◌∙◌}
use mathlib.Core.Bool.{true, false, true≢false}
use Prim.Native.Nat.{ℕ, suc, ◌-◌, ◌≤◌}
use native.Mathlib.Omega.{arith}
use borrow.Author.Tests.{le-ltb}
use lib.IntN.{ℤ, pos, negsuc, sub_ℕ, ◌-ℤ◌}
use lib.Signed.{mag, lt_z}

-- ---- a difference of two naturals that is no less than 0
pub sub_pos : (a b : ℕ) → b ≤ a → sub_ℕ a b ≡ pos (a - b)
sub_pos a b h = simp (le-ltb a b h)

-- ---- a number that is not below 0, one that is, and one that is turned over: -1 - z
pub not_negative : (z : ℤ) → lt_z z (pos 0) ≡ false → z ≡ pos (mag z)
not_negative (pos n) h = refl
not_negative (negsuc n) h = absurd (true≢false h)

pub negative : (z : ℤ) → lt_z z (pos 0) ≡ true → z ≡ negsuc (mag z)
negative (pos n) h = absurd (true≢false (sym h ∙ le-ltb n 0 (omega arith)))
negative (negsuc n) h = refl

pub flipped : (z : ℤ) → lt_z z (pos 0) ≡ true → negsuc 0 -ℤ z ≡ pos (mag z)
flipped z h = ap (λ (y : ℤ). negsuc 0 -ℤ y) (negative z h) ∙ sub_pos (suc (mag z)) 1 (omega arith) ∙ ap pos (omega arith)
