-- `real z` is z / 2^52 exactly, with z's sign, where z is below 2^53 in size.
-- Assumes nothing.
use Rattle.std.proofs.Common.{◌≡◌, ℕ, suc, ◌*◌, ◌^◌, ◌<◌, Bool, true, false, ℤ, pos, negsuc, nat_abs, sym, refl, ap, ◌∙◌, subst, lt_of_lt_of_le, le_of_lt, mul_assoc, mul_comm, mul-lt-mul_of_pos_right, mul-pos, mul_right_comm, lit<, lit≤, pow_pos}
use native.Mathlib.Nat.{eq_of_mul-eq-mul_right}
use lib.Ieee.{Float, nan, inf, fin, binary64, up, down, round, of_int, div, unlike}
use lib.Ieee.Fits.{down_pos}
use lib.Ieee.Exact.{HasValue, round_exact}
use lib.Ieee.Back.{round_whole}
use Rattle.fixed.specs.Real.{real, negative}

-- from one fraction to another of the same size
rescale : (x : Float) (s : Bool) (w l num den : ℕ) → 0 < l → num * l ≡ w * den → HasValue x s w l → HasValue x s num den
rescale nan s w l num den p h v = v
rescale (inf t) s w l num den p h v = v
rescale (fin t m e) s w l num den p h v = (
  v.0,
  eq_of_mul-eq-mul_right l p (m * up e * den) (num * down e)
      (mul_right_comm (m * up e) den l
      ∙ ap (λ (x : ℕ). x * den) v.1
      ∙ mul_right_comm w (down e) den
      ∙ ap (λ (x : ℕ). x * down e) (sym h)
      ∙ mul_right_comm num l (down e)),
)

same_sign : (s : Bool) → unlike s false ≡ s
same_sign true = refl
same_sign false = refl

-- a float that is n in size and is divided by 2^52
divided : (x : Float) (s : Bool) (n : ℕ) → n < 2 ^ 53 → HasValue x s n 1 → HasValue (div binary64 x (fin false 1 (pos 52))) s n (2 ^ 52)
unfolding div
divided nan s n h v = absurd v
divided (inf t) s n h v = absurd v
divided (fin t m e) s n h v =
    let a : ℕ = m * up e * 1 in
    let c : ℕ = 1 * 2 ^ 52 * down e in
    let C : 0 < c = mul-pos (lit< tt) (down_pos e) in
    let w : a ≡ n * down e = v.1 in
    let same : a * 2 ^ 1074 ≡ n * 2 ^ 1022 * c =
    ap (λ (z : ℕ). z * 2 ^ 1074) w
    ∙ mul_right_comm n (down e) (2 ^ 1074)
    ∙ ap (λ (z : ℕ). z * down e) (sym (mul_assoc n (2 ^ 1022) (1 * 2 ^ 52)))
    ∙ mul_assoc (n * 2 ^ 1022) (1 * 2 ^ 52) (down e) in
    subst (λ (b : Bool). HasValue (round binary64 (unlike t false) a c) b n (2 ^ 52)) (same_sign t ∙ v.0)
    (rescale (round binary64 (unlike t false) a c) (unlike t false) a c n (2 ^ 52) C
    (sym (ap (λ (z : ℕ). z * 2 ^ 52) w ∙ mul_assoc n (down e) (2 ^ 52) ∙ ap (λ (z : ℕ). n * z) (mul_comm (down e) (2 ^ 52))))
    (round_exact binary64 (unlike t false) a c n 1022 C h (lt_of_lt_of_le (mul-lt-mul_of_pos_right h (pow_pos 1022)) (lit≤ tt)) same))

pub real_exact : (z : ℤ) → nat_abs z < 2 ^ 53 → HasValue (real z) (negative z) (nat_abs z) (2 ^ 52)
unfolding of_int
real_exact (pos n) h = divided (round binary64 false n 1) false n h (round_whole binary64 false n (le_of_lt h))
real_exact (negsuc n) h = divided (round binary64 true (suc n) 1) true (suc n) h (round_whole binary64 true (suc n) (le_of_lt h))
