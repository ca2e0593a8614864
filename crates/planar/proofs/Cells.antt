-- What a store of a complex number leaves, and when a list is the list of a run. Assumes nothing.
use mathlib.Core.Path.{◌≡◌, sym, ap, ap₂, ◌∙◌}
use mathlib.Core.Logic.{◌≢◌}
use mathlib.Core.List.{List, ◌++◌}
use Prim.Native.Nat.{ℕ, ◌+◌, ◌<◌}
use native.Mathlib.Omega.{arith}
use lib.Ieee.{Float, nan}
use lib.ListN.{length, take, drop, get_or, set, length-set, length-append, length-drop, take-append-drop, get_or-append}
use lib.Seq.{get_or-set_same, get_or-set_other, ext_get_or, get_or-take, get_or-drop, length-take-le, get_or-append-add}
use Rattle.complex.specs.declared.Complex.{Complex}
use Rattle.lists.specs.Rows.{tabulate}
use Rattle.lists.proofs.Maps.{tabulate_length, tabulate_at}
use Rattle.planar.specs.Cells.{cell, stored, planar}

-- equal parts make equal numbers
pub by_parts : {x y : Complex} → x.re ≡ y.re → x.im ≡ y.im → x ≡ y
by_parts p q = λ i. record { re = p i; im = q i }

module _ (apart : ℕ) (xs : List Float) (i : ℕ) (v : Complex) where
  pub stored_length : length (stored apart xs i v) ≡ length xs
  stored_length = simp length-set

  pub stored_same : i < apart → i + apart < length xs → cell apart (stored apart xs i v) i ≡ v
  stored_same h r =
      by_parts
      (get_or-set_other (set xs i v.re) (i + apart) i v.im nan (λ (e : i ≡ i + apart). omega arith) ∙ get_or-set_same xs i v.re nan (omega arith))
      (get_or-set_same (set xs i v.re) (i + apart) v.im nan (simp length-set r))

  pub stored_other : (j : ℕ) → i < apart → j < apart → j ≢ i → cell apart (stored apart xs i v) j ≡ cell apart xs j
  stored_other j h u n =
      let two : j + apart ≢ i + apart = λ (e : j + apart ≡ i + apart). n (omega arith) in
      by_parts
      (get_or-set_other (set xs i v.re) (i + apart) j v.im nan (λ (e : j ≡ i + apart). omega arith) ∙ get_or-set_other xs i j v.re nan n)
      (get_or-set_other (set xs i v.re) (i + apart) (j + apart) v.im nan two
      ∙ get_or-set_other xs i (j + apart) v.re nan (λ (e : j + apart ≡ i). omega arith))

-- a list of twice `apart` numbers is the run of its cells
pub planar_is : (apart : ℕ) (xs : List Float) (f : ℕ → Complex) → length xs ≡ apart + apart → ((i : ℕ) → i < apart → cell apart xs i ≡ f i) → xs ≡ planar apart f
planar_is apart xs f long each =
    sym (take-append-drop apart xs) ∙ ap₂ (λ (a b : List Float). a ++ b) front behind
  where
    front : take apart xs ≡ tabulate (λ i. (f i).re) apart
    front =
        ext_get_or nan (take apart xs) (tabulate (λ i. (f i).re) apart)
        (length-take-le apart xs (omega arith) ∙ sym (tabulate_length (λ i. (f i).re) apart))
        (λ i h. let u : i < apart = omega (arith, length-take-le apart xs (omega arith)) in get_or-take apart xs i nan u ∙ ap (λ (z : Complex). z.re) (each i u) ∙ sym (tabulate_at (λ j. (f j).re) apart i nan u))

    behind : drop apart xs ≡ tabulate (λ i. (f i).im) apart
    behind =
        ext_get_or nan (drop apart xs) (tabulate (λ i. (f i).im) apart)
        (length-drop apart xs ∙ (omega arith) ∙ sym (tabulate_length (λ i. (f i).im) apart))
        (λ i h.
        let u : i < apart = omega (arith, length-drop apart xs) in
        let e : apart + i ≡ i + apart = omega arith in
        get_or-drop apart xs i nan ∙ ap (λ (j : ℕ). get_or xs j nan) e ∙ ap (λ (z : Complex). z.im) (each i u) ∙ sym (tabulate_at (λ j. (f j).im) apart i nan u))

-- and the cells of a run are its numbers
pub planar_at : (apart : ℕ) (f : ℕ → Complex) (i : ℕ) → i < apart → cell apart (planar apart f) i ≡ f i
planar_at apart f i h = by_parts front behind
  where
    front : get_or (planar apart f) i nan ≡ (f i).re
    front = get_or-append (tabulate (λ j. (f j).re) apart) (tabulate (λ j. (f j).im) apart) nan i (rw tabulate_length h) ∙ tabulate_at (λ j. (f j).re) apart i nan h

    behind : get_or (planar apart f) (i + apart) nan ≡ (f i).im
    behind =
        let e : i + apart ≡ length (tabulate (λ j. (f j).re) apart) + i = omega (arith, tabulate_length (λ j. (f j).re) apart) in
        ap (λ (j : ℕ). get_or (planar apart f) j nan) e
        ∙ get_or-append-add (tabulate (λ j. (f j).re) apart) (tabulate (λ j. (f j).im) apart) i nan
        ∙ tabulate_at (λ j. (f j).im) apart i nan h

pub planar_length : (apart : ℕ) (f : ℕ → Complex) → length (planar apart f) ≡ apart + apart
planar_length apart f = length-append (tabulate (λ i. (f i).re) apart) (tabulate (λ i. (f i).im) apart) ∙ ap₂ (λ (a b : ℕ). a + b) (tabulate_length (λ i. (f i).re) apart) (tabulate_length (λ i. (f i).im) apart)

-- two runs that are equal number by number are one list
pub planar_same : (apart : ℕ) (f g : ℕ → Complex) → ((i : ℕ) → i < apart → f i ≡ g i) → planar apart f ≡ planar apart g
planar_same apart f g same = planar_is apart (planar apart f) g (planar_length apart f) (λ i u. planar_at apart f i u ∙ same i u)
