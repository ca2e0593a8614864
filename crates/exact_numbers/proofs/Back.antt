-- What was kept is read back, and any float reads as a number in range. Assumes nothing.
use Rattle.std.proofs.Common.{◌≡◌, ℕ, ◌+◌, ◌*◌, ◌/◌, ◌%◌, ◌<◌, ◌≤◌, Bool, true, false, cond, leb, ℤ, refl, ap, ◌∙◌, arith, le→leb, le-leb, leb-true}
use lib.Signed.{mag}
use lib.Ieee
use lib.Ieee.{Float, binary64, to_unsigned}
use lib.Ieee.Back.{unsigned_back}
use Rattle.exact_numbers.specs.Numbers.{kept_number, number_in, kept_flag, flag_in, shift_of, index_of, kept_pair, first_in, second_in}
use Rattle.exact_numbers.proofs.Shifts.{shift_small, index_small, index_back}

-- ---- a number

pub number_back : (limit n : ℕ) → n ≤ limit → limit < 65536 → number_in limit (kept_number n) ≡ n
unfolding number_in Ieee.in_float
number_back limit n h k =
    rw ((unsigned_back binary64 64 n (le→leb n 9007199254740992 (omega arith)) (omega arith)).1, le-leb n limit h)

pub number_within : (limit : ℕ) (x : Float) → number_in limit x ≤ limit
unfolding number_in
number_within limit x = pick (leb (to_unsigned 64 x) limit) refl
  where
    pick : (t : Bool) → leb (to_unsigned 64 x) limit ≡ t → cond t (to_unsigned 64 x) 0 ≤ limit
    pick true h = leb-true _ _ h
    pick false h = omega arith

-- ---- a flag

pub flag_back : (b : Bool) → flag_in (kept_flag b) ≡ b
unfolding Ieee.eq Ieee.of_bits Ieee.of_fields Ieee.odd
flag_back true = refl
flag_back false = refl

-- ---- two indices

high_part : (a b : ℕ) → b < 256 → (256 * a + b) / 256 ≡ a
high_part a b h = omega arith

low_part : (a b : ℕ) → b < 256 → (256 * a + b) % 256 ≡ b
low_part a b h = omega arith

module _ (a b : ℤ) (h : mag a < 128) (k : mag b < 128) where
  numbers_back : number_in 65535 (kept_pair a b) ≡ 256 * shift_of a + shift_of b
  unfolding kept_pair
  numbers_back = number_back 65535 (256 * shift_of a + shift_of b) (omega (arith, shift_small a h, shift_small b k)) (omega arith)

  pub first_back : first_in (kept_pair a b) ≡ a
  unfolding first_in
  first_back = ap (λ (n : ℕ). index_of (n / 256)) numbers_back ∙ ap index_of (high_part (shift_of a) (shift_of b) (shift_small b k)) ∙ index_back a h

  pub second_back : second_in (kept_pair a b) ≡ b
  unfolding second_in
  second_back = ap (λ (n : ℕ). index_of (n % 256)) numbers_back ∙ ap index_of (low_part (shift_of a) (shift_of b) (shift_small b k)) ∙ index_back b k

pub first_small : (x : Float) → mag (first_in x) < 128
unfolding first_in
first_small x = index_small (number_in 65535 x / 256) (omega (arith, number_within 65535 x))

pub second_small : (x : Float) → mag (second_in x) < 128
unfolding second_in
second_small x = index_small (number_in 65535 x % 256) (omega arith)
