-- What a float of lent memory reads as, whatever it is: a small whole number, a flag, two indices; and the float that each is kept as, exactly.
-- Assumes nothing.
use Rattle.std.specs.Prelude.{ℕ, ◌+◌, ◌-◌, ◌*◌, ◌/◌, ◌%◌, Bool, cond, ℤ, pos, negsuc, ◌-ℤ◌, from_bits, nat_le, Float}
use Rattle.std.specs.Float.{binary64}
use Rattle.std.specs.Float.Ieee.{to_unsigned, of_int, eq}

-- ---- a number

abbrev pub kept_number : ℕ → Float
kept_number n = of_int binary64 (pos n)

-- the whole part where it is 0..limit, else 0. (`to_unsigned 64`, Rust's `as u64`, has 0 for a NaN and for what is below 0, and the largest u64 for
-- what is too large.)
unfoldable pub number_in : ℕ → Float → ℕ
number_in limit x = cond (nat_le (to_unsigned 64 x) limit) (to_unsigned 64 x) 0

-- ---- a flag: 1 or 0, and whatever is not 1 is false

abbrev pub kept_flag : Bool → Float
kept_flag b = cond b (from_bits binary64 4607182418800017408) (from_bits binary64 0)

abbrev pub flag_in : Float → Bool
flag_in x = eq x (from_bits binary64 4607182418800017408)

-- ---- two indices of -128..127

-- counted from -128
abbrev pub shift_of : ℤ → ℕ
shift_of (pos n) = 128 + n
shift_of (negsuc n) = 127 - n

abbrev pub index_of : ℕ → ℤ
index_of n = pos n -ℤ pos 128

unfoldable pub kept_pair : ℤ → ℤ → Float
kept_pair first second = kept_number (256 * shift_of first + shift_of second)

-- any float reads as two indices
unfoldable pub first_in : Float → ℤ
first_in x = index_of (number_in 65535 x / 256)

unfoldable pub second_in : Float → ℤ
second_in x = index_of (number_in 65535 x % 256)
