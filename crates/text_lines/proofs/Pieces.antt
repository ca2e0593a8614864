-- A step over a piece, against the piece character by character. Assumes nothing.
use Rattle.std.proofs.Common.{◌≡◌, ℕ, suc, ◌+◌, ltb, Bool, true, false, List, [], ◌∷◌, Option, Some, None, length, take, suc-add, add-zero, refl, ap, arith, one-add}
use borrow.Author.Tests.{lt-ltb, le-ltb, ltb-true, ltb-false}
use Rattle.lists.specs.First.{before}
use Rattle.text_lines.specs.Lines.{of_line, part_of, behind, counted, laid, Begun, begun, left_by, ended_in, Stepped, stepped, step_of}
use Rattle.text_lines.proofs.Room.{laid_none, two_laid}

ltb_suc : (a b : ℕ) → ltb (suc a) (suc b) ≡ ltb a b
ltb_suc a b = go (ltb a b) refl
  where
    go : (t : Bool) → ltb a b ≡ t → ltb (suc a) (suc b) ≡ t
    go true p = let h = ltb-true a b p in lt-ltb (suc a) (suc b) (omega arith)
    go false p = let h = ltb-false a b p in le-ltb (suc a) (suc b) (omega arith)

module _ (x : ℕ) (piece : List ℕ) where
  module _ (e : of_line x ≡ true) where
    part_more : part_of (x ∷ piece) ≡ x ∷ part_of piece
    unfolding part_of
    part_more = rw (e, one-add (before of_line piece)) refl

    behind_more : behind (x ∷ piece) ≡ behind piece
    unfolding behind
    behind_more =
        let k : ℕ = length (part_of piece) in
        let far : ltb (suc k) (suc (length piece)) ≡ ltb k (length piece) = ltb_suc k (length piece) in
        rw (part_more, far, suc-add k 1) refl

  module _ (e : of_line x ≡ false) where
    part_end : part_of (x ∷ piece) ≡ []
    unfolding part_of
    part_end = rw e refl

    behind_end : behind (x ∷ piece) ≡ Some piece
    unfolding behind
    behind_end = rw (part_end, lt-ltb 0 (suc (length piece)) (omega arith)) refl

part_none : part_of [] ≡ []
unfolding part_of
part_none = refl

behind_none : behind [] ≡ None
unfolding behind part_of
behind_none = refl

-- what a step to a newline, or to the end of the piece, leaves to do: n characters were had, of which r holds the first
abbrev pub Ran : List ℕ → ℕ → Begun → List (List ℕ) → Option (List ℕ) → Type 0
Ran r n left lines None = (left ≡ begun r n) × (lines ≡ [])
Ran r n left lines (Some rest) = (left ≡ left_by r 0 rest) × (lines ≡ take n r ∷ ended_in r 0 rest)

ran : (piece room : List ℕ) (count : ℕ)
    → Ran (laid room count (part_of piece)) (counted count (length (part_of piece))) (left_by room count piece) (ended_in room count piece) (behind piece)
ran [] room count = rw (part_none, behind_none, laid_none room count, add-zero count) (refl, refl)
ran (x ∷ piece) room count = go (ran piece (laid room count (x ∷ [])) (count + 1)) (of_line x) refl
  where
    go : Ran (laid (laid room count (x ∷ [])) (count + 1) (part_of piece)) (counted (count + 1) (length (part_of piece)))
        (left_by (laid room count (x ∷ [])) (count + 1) piece) (ended_in (laid room count (x ∷ [])) (count + 1) piece) (behind piece)
        → (t : Bool) → of_line x ≡ t
        → Ran (laid room count (part_of (x ∷ piece))) (counted count (length (part_of (x ∷ piece)))) (left_by room count (x ∷ piece)) (ended_in room count (x ∷ piece)) (behind (x ∷ piece))
    go more true e =
        let all : counted (count + 1) (length (part_of piece)) ≡ counted count (suc (length (part_of piece))) = omega arith in
        rw (part_more x piece e, behind_more x piece e, e, ← two_laid room count x (part_of piece), ← all) more
    go more false e = rw (part_end x piece e, behind_end x piece e, e, laid_none room count, add-zero count) (refl, refl)

-- from what a step promises
module _ (room piece : List ℕ) (count : ℕ) (r : Option (List ℕ)) (held : List ℕ) (after : ℕ) (e : stepped r held after ≡ step_of room count piece) where
  pub step_rest : r ≡ behind piece
  unfolding step_of
  step_rest = ap (λ (s : Stepped). s.rest) e

  step_held : held ≡ laid room count (part_of piece)
  unfolding step_of
  step_held = ap (λ (s : Stepped). s.room) e

  step_count : after ≡ counted count (length (part_of piece))
  unfolding step_of
  step_count = ap (λ (s : Stepped). s.count) e

  pub ran_on : Ran held after (left_by room count piece) (ended_in room count piece) r
  ran_on = rw (step_rest, step_held, step_count) (ran piece room count)
