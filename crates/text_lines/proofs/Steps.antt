-- What a step leaves, from the characters before the newline; and that what comes behind is shorter. Assumes nothing.
use Rattle.std.proofs.Common.{◌≡◌, ℕ, ◌+◌, ◌-◌, ◌<◌, ◌≤◌, ltb, Bool, true, false, cond, List, Option, Some, None, Bor, length, take, drop, refl, inl, inr, sym, ap, ◌∙◌, arith, length-take-le, length-drop, option_map}
use Rattle.std.specs.List.{PartBy}
use Rattle.std.proofs.lemmas.List.{drop-drop}
use Rattle.std.proofs.lemmas.List.Sums.{prefix_len-le-length}
use lib.Seq.{take_all}
use borrow.Author.Tests.{lt-ltb, le-ltb, ltb-true}
use Rattle.lists.specs.First.{before}
use Rattle.text_lines.specs.Lines.{of_line, part_of, behind, counted, laid, stepped, step_of}

pub part_size : (piece : List ℕ) → length (part_of piece) ≡ before of_line piece
unfolding part_of
part_size piece = length-take-le (before of_line piece) piece (prefix_len-le-length of_line piece)

pub part_is : (piece : List ℕ) (size : ℕ) → size ≡ before of_line piece → take size piece ≡ part_of piece
unfolding part_of
part_is piece size n = rw n refl

module _ (piece rest : List ℕ) (size : ℕ) (n : size ≡ before of_line piece) (b : rest ≡ drop size piece) where
  rest_size : length rest ≡ length piece - length (part_of piece)
  rest_size = ap length b ∙ length-drop size piece ∙ ap (λ k. length piece - k) (n ∙ sym (part_size piece))

  rest_one : drop 1 rest ≡ drop (length (part_of piece) + 1) piece
  rest_one = ap (drop 1) b ∙ drop-drop 1 size piece ∙ ap (λ k. drop (k + 1) piece) (n ∙ sym (part_size piece))

  pub behind_is : (r : Option (Bor (List ℕ))) → PartBy (λ (x : Bor (List ℕ)). x.now) rest 1 (length rest) r → option_map (λ (x : Bor (List ℕ)). x.now) r ≡ behind piece
  unfolding behind
  behind_is None h =
      let few : length piece ≤ length (part_of piece) = elim h.0 [ inl a ↦ omega (arith, a, rest_size) | inr a ↦ omega (arith, a) ] in
      rw (le-ltb (length (part_of piece)) (length piece) few) refl
  behind_is (Some x) h =
      let more : length (part_of piece) < length piece = omega (arith, h.0.0, rest_size) in
      let is : x.now ≡ drop 1 rest = h.0.2 ∙ take_all (length rest - 1) (drop 1 rest) (rw (length-drop 1 rest) (omega arith)) in
      rw (lt-ltb (length (part_of piece)) (length piece) more) (ap Some (is ∙ rest_one))

pub stepped_is : (room piece : List ℕ) (count : ℕ) (r : Option (List ℕ)) (held : List ℕ) (after : ℕ) → r ≡ behind piece → held ≡ laid room count (part_of piece)
    → after ≡ counted count (length (part_of piece)) → stepped r held after ≡ step_of room count piece
unfolding step_of
stepped_is room piece count r held after e f g = rw (e, f, g) refl

-- ---- for a loop over a piece
module _ (piece rest : List ℕ) (e : Some rest ≡ behind piece) where
  -- what comes behind is shorter
  pub behind_shorter : length rest < length piece
  unfolding behind
  behind_shorter = go (ltb (length (part_of piece)) (length piece)) refl e
    where
      go : (t : Bool) → ltb (length (part_of piece)) (length piece) ≡ t → Some rest ≡ cond t (Some (drop (length (part_of piece) + 1) piece)) None → length rest < length piece
      go true p q =
          let r : rest ≡ drop (length (part_of piece) + 1) piece = cc in
          let k = ltb-true (length (part_of piece)) (length piece) p in
          omega (arith, ap length r ∙ length-drop (length (part_of piece) + 1) piece)
      go false p q = absurd cc
