-- A part of a list, as `&s[a..a + k]` lends it, and the list once the part is back. They are the checker's own `mid_of` and `put_mid`, under names for contracts.
use Rattle.std.specs.Prelude.{List, ◌++◌, ℕ, take, drop}

-- the k elements from place a on
abbrev pub part : {A : Type 0} → ℕ → ℕ → List A → List A
part a k xs = take k (drop a xs)

-- xs with ys in the place of those k
abbrev pub put : {A : Type 0} → ℕ → ℕ → List A → List A → List A
put a k xs ys = take a xs ++ (ys ++ drop k (drop a xs))
