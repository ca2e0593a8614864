-- A flat list made of rows that stand one after the other, each a function of its number.
use Rattle.std.specs.Prelude.{List, [], ◌∷◌, ◌++◌, ℕ, zero, suc}

-- the rows f 0, f 1, .. f (n - 1)
unfoldable pub rows : {A : Type 0} → (ℕ → List A) → ℕ → List A
rows f zero = []
rows f (suc n) = rows f n ++ f n

-- the elements f 0, f 1, .. f (n - 1): rows of one element each
abbrev pub tabulate : {A : Type 0} → (ℕ → A) → ℕ → List A
tabulate f n = rows (λ i. f i ∷ []) n
