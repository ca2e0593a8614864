-- Signed whole numbers as the code has them: how a byte is read, how a number is brought into a range, and the division that truncates.
use Rattle.std.specs.Prelude.{ℕ, suc, ◌-◌, ◌/◌, ◌%◌, cond, ltb, ℤ, pos, negsuc, neg_ℤ, ◌-ℤ◌}
use Rattle.std.specs.Int.Signed.{lt_z}

-- a two's-complement byte: from 128 on it is below zero
abbrev pub byte_z : ℕ → ℤ
byte_z d = cond (ltb d 128) (pos d) (pos d -ℤ pos 256)

-- lo or hi in the place of what lies beyond them
abbrev pub clamp_z : ℤ → ℤ → ℤ → ℤ
clamp_z lo hi z = cond (lt_z z lo) lo (cond (lt_z hi z) hi z)

-- the remainder by 8 that is never negative
abbrev pub wrap_z : ℤ → ℤ
wrap_z (pos n) = pos (n % 8)
wrap_z (negsuc n) = pos (7 - n % 8)

-- z divided by n, toward zero: the magnitude divided, with z's sign
abbrev pub to_zero : ℤ → ℕ → ℤ
to_zero (pos a) n = pos (a / n)
to_zero (negsuc a) n = neg_ℤ (pos (suc a / n))
