-- A part laid behind the characters of a room: as much of it is copied as there is room for. Assumes nothing.
use mathlib.Core.Path.{◌≡◌, refl, sym, ap, ◌∙◌}
use mathlib.Core.List.{List, [], ◌∷◌, ◌++◌}
use Prim.Native.Nat.{ℕ, zero, suc, ◌+◌, ◌-◌, min}
use native.Mathlib.Nat.{zero-add, suc-add, zero-min, suc-min-suc}
use native.Mathlib.Omega.{arith}
use lib.ListN.{length, take, drop, set, length-append, length-take, length-drop, take-append-drop}
use lib.Seq.{take-nil, drop-nil, take-length}
use Rattle.lists.specs.Part.{put}
use Rattle.text_lines.specs.Lines.{laid}

-- a place past the end is the end
pub take_cut : (n : ℕ) (l : List ℕ) → take (min n (length l)) l ≡ take n l
take_cut zero l = rw zero-min
take_cut (suc n) [] = take-nil (min (suc n) 0)
take_cut (suc n) (x ∷ l) = rw suc-min-suc (ap (λ (t : List ℕ). x ∷ t) (take_cut n l))

pub drop_cut : (n : ℕ) (l : List ℕ) → drop (min n (length l)) l ≡ drop n l
drop_cut zero l = rw zero-min
drop_cut (suc n) [] = drop-nil (min (suc n) 0)
drop_cut (suc n) (x ∷ l) = rw suc-min-suc (drop_cut n l)

pub laid_length : (l : List ℕ) (c : ℕ) (p : List ℕ) → length (laid l c p) ≡ length l
unfolding laid
laid_length l c p = simp (length-take, length-append, length-drop) (omega arith)

pub laid_cut : (l : List ℕ) (c : ℕ) (p : List ℕ) → laid l (min c (length l)) p ≡ laid l c p
unfolding laid
laid_cut l c p = rw (take_cut c l, drop_cut c l)

pub laid_none : (l : List ℕ) (c : ℕ) → laid l c [] ≡ l
unfolding laid
laid_none l c = rw (take-append-drop c l, take-length l)

-- one character more is one store more
pub laid_more : (l : List ℕ) (c : ℕ) (p : List ℕ) (v : ℕ) → laid l c (p ++ (v ∷ [])) ≡ set (laid l c p) (c + length p) v
unfolding laid
laid_more [] c p v = refl
laid_more (x ∷ l) zero [] v = refl
laid_more (x ∷ l) zero (y ∷ p) v = rw zero-add (ap (λ (t : List ℕ). y ∷ t) (laid_more l zero p v ∙ rw zero-add))
laid_more (x ∷ l) (suc c) p v = rw suc-add (ap (λ (t : List ℕ). x ∷ t) (laid_more l c p v))

-- ---- what is copied is what is laid
front_copied : (l p : List ℕ) → take (min (length p) (length l)) p ++ drop (min (length p) (length l)) l ≡ take (length l) (p ++ drop (length p) l)
front_copied [] p =
    let none : min (length p) 0 ≡ 0 = omega arith in
    rw none refl
front_copied (x ∷ l) [] =
    let none : min 0 (suc (length l)) ≡ 0 = omega arith in
    rw none (sym (take-length (x ∷ l)))
front_copied (x ∷ l) (y ∷ p) = rw suc-min-suc (ap (λ (t : List ℕ). y ∷ t) (front_copied l p))

module _ (p : List ℕ) where
  copied : (l : List ℕ) (c : ℕ) → let a = min c (length l) in let k = min (length p) (length l - a) in put a k l (take k p) ≡ laid l c p
  unfolding laid
  copied [] c =
      let first : min c 0 ≡ 0 = omega arith in
      let none : min (length p) 0 ≡ 0 = omega arith in
      rw (first, none) refl
  copied (x ∷ l) zero =
      let first : min 0 (suc (length l)) ≡ 0 = omega arith in
      let all : suc (length l) - 0 ≡ suc (length l) = omega arith in
      rw (first, all) (front_copied (x ∷ l) p)
  copied (x ∷ l) (suc c) =
      let first : min (suc c) (suc (length l)) ≡ suc (min c (length l)) = omega arith in
      let left : suc (length l) - suc (min c (length l)) ≡ length l - min c (length l) = omega arith in
      rw (first, left) (ap (λ (t : List ℕ). x ∷ t) (copied l c))

-- from the place and the size that the code has
pub copied_laid : (l p : List ℕ) (c a k n : ℕ) (new : List ℕ) → a ≡ min c (length l) → k ≡ min (length p) (length l - a) → n ≡ k → new ≡ take k p
    → put a n l new ≡ laid l c p
copied_laid l p c a k n new e f g h = rw (h, g, f, e) (copied p l c)

-- a part may be laid in two, the first of one character
pub two_laid : (l : List ℕ) (c x : ℕ) (p : List ℕ) → laid (laid l c (x ∷ [])) (c + 1) p ≡ laid l c (x ∷ p)
unfolding laid
two_laid [] c x p = refl
two_laid (y ∷ l) zero x p = rw (take-length l) refl
two_laid (y ∷ l) (suc c) x p = rw suc-add (ap (λ (t : List ℕ). y ∷ t) (two_laid l c x p))
