-- An answer is Done exactly if its number is 0, by the seven answers in turn. Assumes nothing.
use native.Mathlib.Omega.{arith}
use mathlib.Core.Path.{◌≡◌, refl}
use mathlib.Core.Logic.{◌≢◌}
use mathlib.Core.List.{[], ◌∷◌}
use types.Run.{OneOf, miss}
use denote.Enum.Declared.{tag_of}
use Rattle.answer.specs.declared.Answer.{Answer}
use Rattle.answer.specs.declared.Answer.TheVariants.{Done, Quiet, Character, Length, Field, Buffers, Sample}
use Rattle.answer.specs.Number.{number_of}
use Rattle.answer.specs.contracts.Answer.{the_type}

-- a `let .. else` that asks for Done leaves the six other tags
pub not_done : (a : Answer) → OneOf (1 ∷ 2 ∷ 3 ∷ 4 ∷ 5 ∷ 6 ∷ []) (tag_of the_type a) → number_of a ≢ 0
not_done Done k = λ e. miss (1 ∷ 2 ∷ 3 ∷ 4 ∷ 5 ∷ 6 ∷ []) 0 tt k
not_done Quiet k = λ e. omega arith
not_done Character k = λ e. omega arith
not_done Length k = λ e. omega arith
not_done Field k = λ e. omega arith
not_done Buffers k = λ e. omega arith
not_done Sample k = λ e. omega arith

pub zero_done : (a : Answer) → number_of a ≡ 0 → a ≡ Done
zero_done Done e = refl
zero_done Quiet e = absurd (omega arith)
zero_done Character e = absurd (omega arith)
zero_done Length e = absurd (omega arith)
zero_done Field e = absurd (omega arith)
zero_done Buffers e = absurd (omega arith)
zero_done Sample e = absurd (omega arith)
