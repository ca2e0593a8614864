-- Document 01, 'The cue line': the number of each answer. Assumes nothing.
use Rattle.std.specs.Prelude.{◌≡◌, ℕ, ◌<◌, Result, MatchResult}
use Rattle.answer.specs.declared.Answer.{Answer}
use Rattle.answer.specs.declared.NoAnswer.{NoAnswer}
use Rattle.answer.specs.declared.Answer.TheVariants.{Done, Quiet, Character, Length, Field, Buffers, Sample}

abbrev pub number_of : Answer → ℕ
-- frame done: both outputs filled, state advanced
number_of Done = 0
-- an empty line before any configuration: nothing changes, buffers unread; and so on below: nothing changes
number_of Quiet = 1
-- a character outside 0-9 a-f
number_of Character = 2
-- the line's length
number_of Length = 3
-- a field out of range
number_of Field = 4
-- the buffers' lengths
number_of Buffers = 5
-- a sample that is not finite, or above 1,048,576 in magnitude
number_of Sample = 6

-- which answer a number is: none above 6 is one
abbrev pub Numbered : ℕ → Result Answer NoAnswer → Type 0
Numbered n r = MatchResult r (λ a. number_of a ≡ n) (λ _. 6 < n)
