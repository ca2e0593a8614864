-- Document 01, 'The cue line': lower-case hexadecimal, two digits a byte. Assumes nothing.
use Rattle.std.specs.Prelude.{ℕ, ◌+◌, ◌-◌, ◌*◌, ◌%◌, List, [], ◌∷◌, Option, Some, None, Bool, cond, ◌&&◌, ◌||◌, leb, ltb, eqb}

abbrev pub between : ℕ → ℕ → ℕ → Bool
between low high c = leb low c && leb c high

-- 0 to 9 are the characters 48 to 57, a to f 97 to 102
abbrev pub is_digit : ℕ → Bool
is_digit c = between 48 57 c || between 97 102 c

abbrev pub digit_of : ℕ → ℕ
digit_of c = cond (between 48 57 c) (c - 48) (cond (between 97 102 c) (c - 87) 0)

-- the same where another character has none
abbrev pub digit_in : ℕ → Option ℕ
digit_in c = cond (is_digit c) (Some (digit_of c)) None

-- two digits a byte
unfoldable pub bytes_of : List ℕ → List ℕ
bytes_of [] = []
bytes_of (a ∷ []) = []
bytes_of (a ∷ b ∷ cs) = (digit_of a * 16 + digit_of b) ∷ bytes_of cs

-- an odd digit count, or that of 1 to 3 bytes
abbrev pub ragged : ℕ → Bool
ragged digits = eqb (digits % 2) 1 || (ltb 0 digits && ltb digits 8)
