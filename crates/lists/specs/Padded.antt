-- A list in a fixed number of places.
use Rattle.std.specs.Prelude.{List, ◌++◌, ℕ, take, replicate}

-- the n places that hold a list: z after it
abbrev pub padded : {A : Type 0} → ℕ → A → List A → List A
padded n z l = take n (l ++ replicate n z)
