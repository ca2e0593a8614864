-- Document 01, 'Constants': a whole number of 2^-52 as a float, by a cast, which is exact below 2^53, and one division.
-- Assumes nothing.
use Rattle.std.specs.Prelude.{ℕ, ◌+◌, Bool, true, false, List, ℤ, pos, negsuc, neg_ℤ, slice_index_or, Float}
use Rattle.std.specs.Float.{fin, binary64}
use Rattle.std.specs.Float.Ieee.{of_int, div}
use Rattle.complex.specs.declared.Complex.{Complex}

-- z / 2^52; `fin false 1 (pos 52)` is the float 2^52
abbrev pub real : ℤ → Float
real z = div binary64 (of_int binary64 z) (fin false 1 (pos 52))

-- -n, as a table writes it
abbrev pub neg : ℕ → ℤ
neg n = neg_ℤ (pos n)

-- the pair that starts at a place of a table, 0 past its end
abbrev pub pair_at : List ℤ → ℕ → Complex
pair_at table at = record { re = real (slice_index_or table at (pos 0)); im = real (slice_index_or table (at + 1) (pos 0)) }

-- the sign of z; 0 has none
abbrev pub negative : ℤ → Bool
negative (pos n) = false
negative (negsuc n) = true
