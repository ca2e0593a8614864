-- An index counted from -128: it is below 256, and the number gives the index back. Assumes nothing.
use Rattle.std.proofs.Common.{◌≡◌, ℕ, suc, ◌+◌, ◌-◌, ◌<◌, Bool, true, false, cond, ltb, ℤ, pos, negsuc, ◌+ℤ◌, refl, ap, ◌∙◌, arith, ltb-false, le-ltb, lt-ltb}
use lib.Signed.{mag}
use Rattle.integers.proofs.Signs.{sub_pos}
use Rattle.exact_numbers.specs.Numbers.{shift_of, index_of}

pub shift_is : (z : ℤ) → mag z < 128 → z +ℤ pos 128 ≡ pos (shift_of z)
shift_is (pos n) h = ap pos (omega arith)
shift_is (negsuc n) h = sub_pos 128 (suc n) (omega arith) ∙ ap pos (omega arith)

pub shift_small : (z : ℤ) → mag z < 128 → shift_of z < 256
shift_small (pos n) h = omega arith
shift_small (negsuc n) h = omega arith

pub index_small : (n : ℕ) → n < 256 → mag (index_of n) < 128
index_small n h = pick (ltb n 128) refl
  where
    pick : (t : Bool) → ltb n 128 ≡ t → mag (cond t (negsuc (128 - suc n)) (pos (n - 128))) < 128
    pick true e = omega arith
    pick false e = omega (arith, ltb-false n 128 e)

pub index_back : (z : ℤ) → mag z < 128 → index_of (shift_of z) ≡ z
index_back (pos n) h = rw (le-ltb (128 + n) 128 (omega arith)) (ap pos (omega arith))
index_back (negsuc n) h = rw (lt-ltb (127 - n) 128 (omega arith)) (ap negsuc (omega arith))
