-- A loop that tests each element: one that leaves at the first that fails, and one that goes on to the end with a flag for all so far. Assumes nothing.
use mathlib.Core.Path.{◌≡◌, refl, sym, ap, ◌∙◌}
use mathlib.Core.List.{List, [], ◌∷◌, ◌++◌}
use mathlib.Core.Bool.{Bool, true, false, ◌&&◌, and-true, and_assoc, true≢false}
use Prim.Native.Nat.{ℕ, zero, suc, ◌+◌, ◌<◌, ◌≤◌}
use native.Mathlib.Numerals.{add-one}
use native.Mathlib.Nat.{not-suc-le-zero, le_of_suc-le-suc}
use native.Mathlib.Omega.{arith}
use lib.ListN.{length, take, drop, get_or, drop_of_length-le}
use lib.Seq.{drop-cons, take-suc, take_all}
use Rattle.lists.specs.All.{all}

-- where both pass, each does
pub both : (a b : Bool) → a && b ≡ true → (a ≡ true) × (b ≡ true)
both true b e = (refl, e)
both false b e = absurd (true≢false (sym e))

module _ {A : Type 0} (f : A → Bool) where
  pub all_append : (p q : List A) → all f (p ++ q) ≡ all f p && all f q
  all_append [] q = refl
  all_append (x ∷ p) q = rw (all_append p q, and_assoc)

  -- that all pass, place by place
  pub all_at : (l : List A) (i : ℕ) (d : A) → i < length l → all f l ≡ true → f (get_or l i d) ≡ true
  all_at [] i d h e = absurd (not-suc-le-zero h)
  all_at (x ∷ l) zero d h e = (both (f x) (all f l) e).0
  all_at (x ∷ l) (suc i) d h e = all_at l i d (le_of_suc-le-suc h) (both (f x) (all f l) e).1

  pub all_of : (l : List A) (d : A) → ((i : ℕ) → i < length l → f (get_or l i d) ≡ true) → all f l ≡ true
  all_of [] d h = refl
  all_of (x ∷ l) d h = rw (h 0 (omega arith), all_of l d (λ i u. h (suc i) (omega arith)))

  module _ (l : List A) (i : ℕ) where
    -- ---- leaving at the first that fails: the elements passed have passed, so the rest decides
    pub all_passed : (d : A) → i < length l → f (get_or l i d) ≡ true → all f l ≡ all f (drop i l) → all f l ≡ all f (drop (i + 1) l)
    all_passed d h p e = e ∙ rw (add-one, drop-cons l i d, p)

    -- it fails: so does the list
    pub all_failed : (d : A) → i < length l → f (get_or l i d) ≡ false → all f l ≡ all f (drop i l) → false ≡ all f l
    all_failed d h p e = sym (e ∙ rw (drop-cons l i d, p))

    -- none is left
    pub all_done : length l ≤ i → all f l ≡ all f (drop i l) → true ≡ all f l
    all_done h e = sym (e ∙ rw (drop_of_length-le l h))

    -- ---- going on to the end: the flag says whether all so far pass
    pub all_so_far : (d : A) (ok t : Bool) → i < length l → t ≡ f (get_or l i d) → ok ≡ all f (take i l) → ok && t ≡ all f (take (i + 1) l)
    all_so_far d ok t h p e =
        let last : t ≡ all f (get_or l i d ∷ []) = p ∙ sym (and-true (f (get_or l i d))) in
        rw (e, last, add-one, take-suc l i d) (sym (all_append (take i l) (get_or l i d ∷ [])))

    pub all_whole : (ok : Bool) → length l ≤ i → ok ≡ all f (take i l) → ok ≡ all f l
    all_whole ok h e = e ∙ ap (all f) (take_all i l h)
