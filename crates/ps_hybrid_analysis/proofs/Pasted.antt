-- Two runs, of real and of imaginary parts, written over the fronts of both halves of a run of complex numbers. Assumes nothing.
use mathlib.Core.Path.{◌≡◌, refl, ap, ◌∙◌}
use mathlib.Core.Bool.{Bool, true, false}
use mathlib.Core.List.{List}
use Prim.Native.Nat.{ℕ, ◌+◌, ◌<◌, ◌≤◌}
use native.Mathlib.Omega.{arith}
use borrow.Author.Tests.{ltb-true, ltb-false, lt-ltb}
use lib.Dec.{ltb}
use lib.Ieee.{Float, nan}
use lib.ListN.{length, get_or, length-append, length-take, length-drop}
use Rattle.complex.specs.declared.Complex.{Complex}
use Rattle.lists.specs.Part.{put}
use Rattle.lists.proofs.Parts.{put_before, put_within, put_behind}
use Rattle.planar.specs.Cells.{cell, planar, overwritten}
use Rattle.planar.proofs.Cells.{by_parts, planar_is, planar_same}

put_long : (a k : ℕ) (xs ys : List Float) → a + k ≤ length xs → length ys ≡ k → length (put a k xs ys) ≡ length xs
put_long a k xs ys room long = simp (length-append, length-take, length-drop) (omega arith)

module _ (apart n : ℕ) (f : ℕ → Complex) (old re im : List Float) (few : n ≤ apart) (long : length old ≡ apart + apart) (re_long : length re ≡ n) (im_long : length im ≡ n)
    (re_is : (i : ℕ) → i < n → get_or re i nan ≡ (f i).re) (im_is : (i : ℕ) → i < n → get_or im i nan ≡ (f i).im) where
  -- the real parts are there first
  half_long : length (put 0 n old re) ≡ apart + apart
  half_long = put_long 0 n old re (omega arith) re_long ∙ long

  first : (i : ℕ) → i < n → get_or (put 0 n old re) i nan ≡ (f i).re
  first i u =
      let place : i ≡ 0 + i = omega arith in
      ap (λ (m : ℕ). get_or (put 0 n old re) m nan) place ∙ put_within 0 n old re (omega arith) i nan (omega arith) ∙ re_is i u

  others : (i : ℕ) → n ≤ i → get_or (put 0 n old re) i nan ≡ get_or old i nan
  others i u = put_behind 0 n old re (omega arith) i nan re_long (omega arith)

  -- then the imaginary ones, behind which they stay
  behind : (xs : List Float) → length xs ≡ apart + apart → (i : ℕ) → i < n → get_or (put apart n xs im) (i + apart) nan ≡ (f i).im
  behind xs whole i u =
      let place : i + apart ≡ apart + i = omega arith in
      ap (λ (m : ℕ). get_or (put apart n xs im) m nan) place ∙ put_within apart n xs im (omega arith) i nan (omega arith) ∙ im_is i u

  one : (i : ℕ) → i < apart → (t : Bool) → ltb i n ≡ t → cell apart (put apart n (put 0 n old re) im) i ≡ overwritten n f (cell apart old) i
  one i u true e =
      let new : i < n = ltb-true i n e in
      rw e (by_parts (put_before apart n (put 0 n old re) im (omega (arith, half_long)) i nan u ∙ first i new) (behind (put 0 n old re) half_long i new))
  one i u false e =
      let kept : n ≤ i = ltb-false i n e in
      rw e
      (by_parts (put_before apart n (put 0 n old re) im (omega (arith, half_long)) i nan u ∙ others i kept)
      (put_behind apart n (put 0 n old re) im (omega (arith, half_long)) (i + apart) nan im_long (omega arith) ∙ others (i + apart) (omega arith)))

  pub pasted : put apart n (put 0 n old re) im ≡ planar apart (overwritten n f (cell apart old))
  pasted =
      planar_is apart (put apart n (put 0 n old re) im) (overwritten n f (cell apart old))
      (put_long apart n (put 0 n old re) im (omega (arith, half_long)) im_long ∙ half_long) (λ i u. one i u (ltb i n) refl)

-- runs as long as the halves
pub pasted_all : (n : ℕ) (f : ℕ → Complex) (old re im : List Float) → length old ≡ n + n → length re ≡ n → length im ≡ n
    → ((i : ℕ) → i < n → get_or re i nan ≡ (f i).re) → ((i : ℕ) → i < n → get_or im i nan ≡ (f i).im) → put n n (put 0 n old re) im ≡ planar n f
pasted_all n f old re im long re_long im_long re_is im_is =
    pasted n n f old re im (omega arith) long re_long im_long re_is im_is ∙ planar_same n (overwritten n f (cell n old)) f (λ i u. rw (lt-ltb i n u))
