-- What the first place that fails is, and how a walk along the list finds it. Assumes nothing.
use mathlib.Core.Path.{◌≡◌, refl, sym, ◌∙◌}
use mathlib.Core.List.{List, [], ◌∷◌}
use mathlib.Core.Bool.{Bool, true, false, cond, ◌&&◌, true≢false}
use Prim.Native.Nat.{ℕ, zero, suc, ◌+◌, ◌<◌, ◌≤◌}
use native.Mathlib.Numerals.{add-one, one-add}
use native.Mathlib.Omega.{arith}
use native.Mathlib.Nat.{not-suc-le-zero}
use lib.ListN.{length, drop, get_or, drop_of_length-le}
use lib.Seq.{drop-cons}
use Rattle.lists.specs.All.{all}
use Rattle.lists.specs.First.{before}

module _ {A : Type 0} (f : A → Bool) where
  -- where one fails, the first place is one of the list
  pub before_inside : (l : List A) → all f l ≡ false → before f l < length l
  before_inside [] e = absurd (true≢false e)
  before_inside (x ∷ l) e = go (λ k. before_inside l k) (f x) e
    where
      go : (all f l ≡ false → before f l < length l) → (t : Bool) → t && all f l ≡ false → cond t (1 + before f l) 0 < suc (length l)
      go more true k = let u = more k in omega arith
      go more false k = omega arith

  -- what stands there fails
  pub before_fails : (l : List A) (d : A) → all f l ≡ false → f (get_or l (before f l) d) ≡ false
  before_fails [] d e = absurd (true≢false e)
  before_fails (x ∷ l) d e = go (λ k. before_fails l d k) (f x) refl e
    where
      go : (all f l ≡ false → f (get_or l (before f l) d) ≡ false) → (t : Bool) → f x ≡ t → t && all f l ≡ false
          → f (get_or (x ∷ l) (cond t (1 + before f l) 0) d) ≡ false
      go more true p k = rw (one-add (before f l)) (more k)
      go more false p k = p

  -- and what stands before it passes
  pub before_passes : (l : List A) (d : A) (i : ℕ) → i < before f l → f (get_or l i d) ≡ true
  before_passes [] d i h = absurd (not-suc-le-zero h)
  before_passes (x ∷ l) d i h = go (λ j u. before_passes l d j u) (f x) refl i h
    where
      go : ((j : ℕ) → j < before f l → f (get_or l j d) ≡ true) → (t : Bool) → f x ≡ t → (i : ℕ) → i < cond t (1 + before f l) 0 → f (get_or (x ∷ l) i d) ≡ true
      go more true p zero u = p
      go more true p (suc i) u = more i (omega arith)
      go more false p i u = absurd (not-suc-le-zero u)

-- ---- a walk that has passed i elements

module _ {A : Type 0} (f : A → Bool) (l : List A) (i : ℕ) where
  pub before_passed : (d : A) → i < length l → f (get_or l i d) ≡ true → before f l ≡ i + before f (drop i l) → before f l ≡ i + 1 + before f (drop (i + 1) l)
  before_passed d h p e =
      let more : before f (drop i l) ≡ 1 + before f (drop (i + 1) l) = rw (add-one, drop-cons l i d, p) in
      e ∙ rw more (omega arith)

  pub before_failed : (d : A) → i < length l → f (get_or l i d) ≡ false → before f l ≡ i + before f (drop i l) → i ≡ before f l
  before_failed d h p e =
      let none : before f (drop i l) ≡ 0 = rw (drop-cons l i d, p) in
      sym (e ∙ rw none (omega arith))

  pub before_done : length l ≤ i → before f l ≡ i + before f (drop i l) → i ≡ before f l
  before_done h e =
      let none : before f (drop i l) ≡ 0 = rw (drop_of_length-le l h) in
      sym (e ∙ rw none (omega arith))
