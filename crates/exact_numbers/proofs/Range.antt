-- A float outside the range of a u64 reads as an end of the range. Assumes nothing.
use Rattle.std.proofs.Common.{◌≡◌, ℕ, ◌+◌, ◌*◌, ◌/◌, ◌<◌, ◌≤◌, true, false, ltb, pos, sym, refl, true≢false, le-div_iff_mul-le, arith, ltb-false}
use lib.Ieee.{Float, nan, inf, fin, up, down, lt, to_unsigned}
use lib.Ieee.Fits.{down_pos}

none_left : (a b : ℕ) → 0 < a → ltb 0 (a + b) ≡ false → ⊥
none_left a b p h = omega (arith, ltb-false 0 (a + b) h)

none_right : (a b : ℕ) → 0 < b → ltb 0 (a + b) ≡ false → ⊥
none_right a b p h = omega (arith, ltb-false 0 (a + b) h)

-- not above -1: 0
pub none_below : (x : Float) → lt (fin true 1 (pos 0)) x ≡ false → to_unsigned 64 x ≡ 0
unfolding lt to_unsigned
none_below nan h = refl
none_below (inf true) h = refl
none_below (inf false) h = absurd (true≢false h)
none_below (fin true m e) h = refl
none_below (fin false m e) h = absurd (none_left (1 * 1 * down e) (m * up e * 1) (omega (arith, down_pos e)) h)

over : (a d k : ℕ) → 0 < d → 1 * k * d ≤ a * 1 → k ≤ a / d
over a d k p h = (le-div_iff_mul-le p).1 (omega (arith, h))

-- 2^64 or more: the largest u64
pub most_above : (x : Float) → lt (fin true 1 (pos 0)) x ≡ true → lt x (fin false 1 (pos 64)) ≡ false → to_unsigned 64 x ≡ 18446744073709551615
unfolding lt to_unsigned
most_above nan p h = absurd (true≢false (sym p))
most_above (inf true) p h = absurd (true≢false (sym p))
most_above (inf false) p h = refl
most_above (fin true m e) p h = absurd (none_right (m * up e * 1) (1 * 18446744073709551616 * down e) (omega (arith, down_pos e)) h)
most_above (fin false m e) p h = omega (arith, over (m * up e) (down e) 18446744073709551616 (down_pos e) (ltb-false _ _ h))
