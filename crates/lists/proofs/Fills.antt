-- A loop that writes a list from the front, when its goal goes by what is left to write: the front and the rest make the whole at every turn. (Nothing is left past the end: the library's `drop_of_length-le`.) Assumes nothing.
use mathlib.Core.Path.{◌≡◌, refl, sym, ap, ◌∙◌}
use mathlib.Core.List.{List, [], ◌∷◌, ◌++◌, append_assoc, append-nil}
use Prim.Native.Nat.{ℕ, ◌+◌, ◌<◌, ◌≤◌}
use native.Mathlib.Numerals.{add-one}
use native.Mathlib.Omega.{arith}
use lib.ListN.{length, take, drop, set, length-set, take-append-drop}
use lib.Seq.{length-take-le, take-suc-set, drop-set-lt, drop-drop}

module _ {A : Type 0} where
  -- the front grows by what is written, and the rest of the goal shrinks by it
  pub grown : (l : List A) (i : ℕ) (v : A) (rest whole : List A) → i < length l → take i l ++ (v ∷ rest) ≡ whole → take (i + 1) (set l i v) ++ rest ≡ whole
  grown l i v rest whole h e = rw (add-one, take-suc-set l i v, append_assoc) e

  -- what lies behind stays
  pub behind : (l d : List A) (i : ℕ) (v : A) → drop i l ≡ drop i d → drop (i + 1) (set l i v) ≡ drop (i + 1) d
  behind l d i v e =
      drop-set-lt (i + 1) l i v (omega arith) ∙ sym (drop-drop 1 i l) ∙ ap (drop 1) e ∙ drop-drop 1 i d

  -- at the end
  pub closed : (l d whole : List A) (n : ℕ) → n ≤ length l → take n l ≡ whole → drop n l ≡ drop n d → l ≡ whole ++ drop (length whole) d
  closed l d whole n h e f = rw (← e, length-take-le n l h, ← f) (sym (take-append-drop n l))

  -- ---- the three as one invariant: i places of d are written, and `rest` of the whole is left
  pub record Filled (rest whole d l : List A) (i : ℕ) : Type 0 where
    pub long : length l ≡ length d
    pub room : i ≤ length d
    pub front : take i l ++ rest ≡ whole
    pub kept : drop i l ≡ drop i d

  pub filled_none : (whole d : List A) → Filled whole whole d d 0
  filled_none whole d = record { long = refl; room = omega arith; front = refl; kept = refl }

  pub filled_more : {left rest whole d l : List A} {i : ℕ} → Filled left whole d l i → (v : A) → left ≡ v ∷ rest → i < length d → Filled rest whole d (set l i v) (i + 1)
  filled_more {left} {rest} {whole} {d} {l} {i} f v e h =
      record {
        long = length-set l i v ∙ f.long;
        room = omega arith;
        front = grown l i v rest whole (rw f.long h) (ap (λ (t : List A). take i l ++ t) (sym e) ∙ f.front);
        kept = behind l d i v f.kept;
      }

  pub filled_all : {whole d l : List A} {i : ℕ} → Filled [] whole d l i → l ≡ whole ++ drop (length whole) d
  filled_all {whole} {d} {l} {i} f = closed l d whole i (rw f.long f.room) (sym (append-nil (take i l)) ∙ f.front) f.kept
