-- Lines out of pieces of a text. A line that has begun is the count of all its characters, beside room for the first of them. Assumes nothing.
use Rattle.std.specs.Prelude.{◌≡◌, Bool, not, cond, Option, Some, None, List, [], ◌∷◌, ℕ, ◌+◌, min, eqb, ltb, length, take, drop}
use Rattle.lists.specs.First.{before}
use Rattle.lists.specs.Part.{put}

-- a line has every character but the newline
abbrev pub of_line : ℕ → Bool
of_line x = not (eqb x 10)

-- what a piece has of the line that has begun
unfoldable pub part_of : List ℕ → List ℕ
part_of piece = take (before of_line piece) piece

-- what comes behind the line's newline, where the piece has it
unfoldable pub behind : List ℕ → Option (List ℕ)
behind piece = cond (ltb (length (part_of piece)) (length piece)) (Some (drop (length (part_of piece) + 1) piece)) None

-- a count goes as far as 64 bits hold
abbrev pub most : ℕ
most = 18446744073709551615

abbrev pub counted : ℕ → ℕ → ℕ
counted count more = min (count + more) most

-- the room once a part lies behind the characters that the line has had: what goes past the room's end is not held
unfoldable pub laid : List ℕ → ℕ → List ℕ → List ℕ
laid room count part = take (length room) (put count (length part) room part)

-- what a step answers, and leaves of the line
pub record Stepped : Type 0 where
  pub rest : Option (List ℕ)
  pub room : List ℕ
  pub count : ℕ

abbrev pub stepped : Option (List ℕ) → List ℕ → ℕ → Stepped
stepped rest room count = record { rest = rest; room = room; count = count }

-- it passes the part and the newline behind it, or goes to the end of the piece
unfoldable pub step_of : List ℕ → ℕ → List ℕ → Stepped
step_of room count piece = stepped (behind piece) (laid room count (part_of piece)) (counted count (length (part_of piece)))

-- ---- a whole piece, character by character

pub record Begun : Type 0 where
  pub room : List ℕ
  pub count : ℕ

abbrev pub begun : List ℕ → ℕ → Begun
begun room count = record { room = room; count = count }

-- the line that a piece leaves begun: a newline begins one with no character
abbrev pub left_by : List ℕ → ℕ → List ℕ → Begun
left_by room count [] = begun room (min count most)
left_by room count (x ∷ piece) = cond (of_line x) (left_by (laid room count (x ∷ [])) (count + 1) piece) (left_by room 0 piece)

-- the lines that end in a piece, each as it is held
abbrev pub ended_in : List ℕ → ℕ → List ℕ → List (List ℕ)
ended_in room count [] = []
ended_in room count (x ∷ piece) = cond (of_line x) (ended_in (laid room count (x ∷ [])) (count + 1) piece) (take (min count most) room ∷ ended_in room 0 piece)

-- a room and a count hold a text: all its characters are counted, and as many as there is room for are there
pub record Holds (room : List ℕ) (count : ℕ) (text : List ℕ) : Type 0 where
  pub all : count ≡ min (length text) most
  pub first : take (length text) room ≡ take (length room) text
