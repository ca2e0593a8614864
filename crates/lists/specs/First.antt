-- The place of the first element that fails a test: std's word for what `position` over an iterator answers, and the length where it answers none.
use Rattle.std.specs.Prelude.{ℕ, List, Bool}
use Rattle.std.specs.List.{prefix_len}

-- how many elements stand before the first that fails; all of them where none does
abbrev pub before : {A : Type 0} → (A → Bool) → List A → ℕ
before f xs = prefix_len f xs
