-- Indices in memory, two to a float. Assumes nothing.
use Rattle.std.specs.Prelude.{ℕ, ◌+◌, ◌*◌, List, [], ◌∷◌, ℤ, pos, get_or, Float}
use Rattle.std.specs.Float.{nan}
use Rattle.exact_numbers.specs.Numbers.{kept_pair, first_in, second_in}
use Rattle.lists.specs.Rows.{rows, tabulate}

-- n floats for 2 n indices
unfoldable pub packed : ℕ → List ℤ → List Float
packed n v = tabulate (λ i. kept_pair (get_or v (2 * i) (pos 0)) (get_or v (2 * i + 1) (pos 0))) n

-- the two indices that a float reads as
abbrev pub both : Float → List ℤ
both x = first_in x ∷ second_in x ∷ []

-- the 2 n indices of n floats
unfoldable pub unpacked : ℕ → List Float → List ℤ
unpacked n m = rows (λ i. both (get_or m i nan)) n
