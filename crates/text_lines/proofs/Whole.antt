-- Over all characters of a line: however they came in parts, the room holds the first of them and the count is of them all. Assumes nothing.
use mathlib.Core.Path.{◌≡◌, refl, sym, ap, ◌∙◌}
use mathlib.Core.Bool.{Bool, true, false, cond}
use mathlib.Core.List.{List, [], ◌∷◌, ◌++◌, append_assoc, append-nil, flatten, foldl}
use Prim.Native.Nat.{ℕ, zero, suc, ◌+◌, ◌≤◌, min}
use native.Mathlib.Nat.{zero-add}
use native.Mathlib.Omega.{arith}
use lib.ListN.{length, take, drop, length-append, length-take}
use lib.Seq.{take-nil, take_all, length-take-le, take-append-add}
use Rattle.lists.specs.First.{before}
use Rattle.text_lines.specs.Lines.{of_line, part_of, most, counted, laid, step_of, Holds}
use Rattle.text_lines.proofs.Room.{take_cut, laid_length, laid_cut}
use Rattle.std.proofs.lemmas.List.Sums.{prefix_len-le-length}

-- ---- a part more
-- the first n of a text with more behind it
front : (text rest : List ℕ) (n : ℕ) → take (length text) (take n (text ++ rest)) ≡ take n text
front [] rest n = sym (take-nil n)
front (x ∷ text) rest zero = refl
front (x ∷ text) rest (suc n) = ap (λ (t : List ℕ). x ∷ t) (front text rest n)

laid_first : (line text part : List ℕ) → take (length text) line ≡ take (length line) text
    → take (length (text ++ part)) (laid line (length text) part) ≡ take (length line) (text ++ part)
unfolding laid
laid_first [] text part e = take-nil (length (text ++ part))
laid_first (x ∷ line) [] part e = front part (drop (length part) (x ∷ line)) (suc (length line))
laid_first (x ∷ line) (y ∷ text) part e =
    let rest : take (length text) line ≡ take (length line) text = cc in
    let more = laid_first line text part rest in
    let same : x ≡ y = cc in
    cc

-- a room is never longer than a count can tell
module _ {line : List ℕ} {count : ℕ} {text : List ℕ} (few : length line ≤ most) (h : Holds line count text) where
  same_cut : min count (length line) ≡ min (length text) (length line)
  same_cut = omega (arith, h.all)

  pub holds_more : (part : List ℕ) → Holds (laid line count part) (counted count (length part)) (text ++ part)
  holds_more part =
      let at : laid line count part ≡ laid line (length text) part =
      sym (laid_cut line count part) ∙ ap (λ (n : ℕ). laid line n part) same_cut ∙ laid_cut line (length text) part
      in
      record {
        all = rw (length-append text part) (omega (arith, h.all));
        first = rw (at, laid_length line (length text) part) (laid_first line text part h.first);
      }

  -- a step
  pub holds_step : (piece : List ℕ) → Holds (step_of line count piece).room (step_of line count piece).count (text ++ part_of piece)
  unfolding step_of
  holds_step piece = holds_more (part_of piece)

  -- ---- what is held is the text's beginning
  pub held_first : take count line ≡ take (length line) text
  held_first = sym (take_cut count line) ∙ ap (λ (n : ℕ). take n line) same_cut ∙ take_cut (length text) line ∙ h.first

  -- all of it where it fits
  pub held_whole : length text ≤ length line → take count line ≡ text
  held_whole e = held_first ∙ take_all (length line) text e

  -- and as much as the room has where it does not: so a room of one place more than a line may have tells a longer line from every one that may be
  pub held_full : length line ≤ length text → length (take count line) ≡ length line
  held_full e = rw (held_first, length-take) (omega arith)

-- ---- all parts of a line, from an empty room on
pub holds_none : (line : List ℕ) → Holds line 0 []
holds_none line = record { all = omega arith; first = sym (take-nil (length line)) }

pub record Begun : Type 0 where
  pub line : List ℕ
  pub count : ℕ

abbrev pub after : Begun → List ℕ → Begun
after b part = record { line = laid b.line b.count part; count = counted b.count (length part) }

holds_on : (parts : List (List ℕ)) (b : Begun) (text : List ℕ) → length b.line ≤ most → Holds b.line b.count text
    → Holds (foldl after b parts).line (foldl after b parts).count (text ++ flatten parts)
unfolding flatten
holds_on [] b text few h = rw (append-nil text) h
holds_on (part ∷ parts) b text few h =
    rw (← append_assoc text part (flatten parts))
    (holds_on parts (after b part) (text ++ part) (rw (laid_length b.line b.count part) few) (holds_more few h part))

pub holds_parts : (parts : List (List ℕ)) (line : List ℕ) → length line ≤ most
    → Holds (foldl after (record { line = line; count = 0 }) parts).line (foldl after (record { line = line; count = 0 }) parts).count (flatten parts)
holds_parts parts line few = holds_on parts (record { line = line; count = 0 }) [] few (holds_none line)

-- ---- a cut changes nothing: what a line has in two pieces, of which the first has no newline, is what it has in them joined
before_on : (f : ℕ → Bool) (a b : List ℕ) → length a ≤ before f a → before f (a ++ b) ≡ length a + before f b
before_on f [] b h = sym (zero-add (before f b))
before_on f (x ∷ a) b h = go (λ k. before_on f a b k) (f x) h
  where
    go : (length a ≤ before f a → before f (a ++ b) ≡ length a + before f b) → (t : Bool)
        → suc (length a) ≤ cond t (1 + before f a) 0 → cond t (1 + before f (a ++ b)) 0 ≡ suc (length a) + before f b
    go on true k = let e = on (omega arith) in omega arith
    go on false k = absurd (omega arith)

module _ (piece more : List ℕ) (whole : length piece ≤ length (part_of piece)) where
  none : length piece ≤ before of_line piece
  unfolding part_of
  none =
      let size : length (part_of piece) ≡ before of_line piece = length-take-le (before of_line piece) piece (prefix_len-le-length of_line piece) in
      omega arith

  piece_is : part_of piece ≡ piece
  unfolding part_of
  piece_is = take_all (before of_line piece) piece none

  pub part_cut : part_of (piece ++ more) ≡ part_of piece ++ part_of more
  unfolding part_of
  part_cut =
      rw (before_on of_line piece more none, take-append-add piece more (before of_line more))
      (ap (λ (t : List ℕ). t ++ take (before of_line more) more) (sym piece_is))
