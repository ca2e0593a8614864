-- A ring gives what came d slots ago: a write at the position adds one entry to the history, and every other cell grows one slot older. Assumes nothing.
use Prim.Native.Nat.{ℕ, suc, ◌+◌, ◌-◌, ◌%◌, ◌≤◌, ◌<◌}
use native.Mathlib.Omega.{arith}
use native.Mathlib.Numerals.{add-one}
use native.Mathlib.Nat.{mod-lt, mod-eq_of_lt, mod_self, mod-add-mod, mod-eq-sub-mod, suc-mod, eq-or-lt_of_le}
use mathlib.Core.Path.{◌≡◌, sym, ap, ◌∙◌, subst}
use mathlib.Core.Logic.{◌⊎◌, inl, inr, ◌≢◌}
use mathlib.Core.Bool.{Bool, true, false, not, cond}
use mathlib.Core.List.{List, [], ◌∷◌}
use lib.Dec.{T, eqb, ltb, eqb→eq, eqb_refl, ltb→lt, nltb→le}
use lib.ListN.{length, get_or, set}
use lib.Seq.{get_or-set_same, get_or-set_other}
use borrow.Author.Tests.{eq-eqb, ne_eqb}
use Rattle.lists.specs.Rows.{tabulate}
use Rattle.lists.specs.Ring.{back, Ring, turned, age}
use Rattle.lists.proofs.Maps.{tabulate_at}

-- the entry that was written last but j
pub aged : {A : Type 0} → ℕ → ℕ → (ℕ → A) → ℕ → A
aged d at cell j = cond (ltb j at) (cell (at - suc j)) (cell (at + d - suc j))

-- ---- the position
pub turned_last : (d at : ℕ) → at + 1 ≡ d → turned d at ≡ 0
unfolding turned
turned_last d at e = rw (← add-one at, eq-eqb (at + 1) d e)

pub turned_next : (d at : ℕ) → at + 1 ≢ d → turned d at ≡ at + 1
unfolding turned
turned_next d at n = rw (← add-one at, ne_eqb (at + 1) d n)

-- a counter of slots gives the position by its remainder. (So does one that wraps at a multiple of d: the library's `mod-mod_of_dvd`.)
pub turned_counter : (d t : ℕ) → 0 < d → turned d (t % d) ≡ (t + 1) % d
turned_counter d t h = go (eq-or-lt_of_le (mod-lt t h))
  where
    next : (t + 1) % d ≡ suc (t % d) % d
    next = rw add-one (suc-mod t d)

    go : (suc (t % d) ≡ d) ⊎ (suc (t % d) < d) → turned d (t % d) ≡ (t + 1) % d
    go (inl e) = turned_last d (t % d) (omega arith) ∙ sym (next ∙ ap (λ (n : ℕ). n % d) e ∙ mod_self d)
    go (inr l) = turned_next d (t % d) (λ (e : t % d + 1 ≡ d). omega arith) ∙ add-one (t % d) ∙ sym (next ∙ mod-eq_of_lt l)

-- ---- ages
module _ (d t j : ℕ) where
  age_newer : j < t % d → t % d < d → age d t j ≡ t % d - suc j
  age_newer u l =
      let e : t % d + (d - suc j) - d ≡ t % d - suc j = omega arith in
      sym (mod-add-mod t d (d - suc j)) ∙ mod-eq-sub-mod (omega arith) ∙ ap (λ (n : ℕ). n % d) e ∙ mod-eq_of_lt (omega arith)

  age_older : t % d ≤ j → j < d → age d t j ≡ t % d + d - suc j
  age_older u l =
      let e : t % d + (d - suc j) ≡ t % d + d - suc j = omega arith in
      sym (mod-add-mod t d (d - suc j)) ∙ ap (λ (n : ℕ). n % d) e ∙ mod-eq_of_lt (omega arith)

pub age_small : (d t j : ℕ) → 0 < d → age d t j < d
age_small d t j h = mod-lt (t + (d - suc j)) h

-- an entry's age leads back to its cell
pub age_back : (d t j : ℕ) → j < d → age d t (age d t j) ≡ j
age_back d t j l = go (ltb j (t % d)) (ltb→lt j (t % d)) (nltb→le j (t % d))
  where
    inside : t % d < d
    inside = mod-lt t (omega arith)

    go : (b : Bool) → (T b → j < t % d) → (T (not b) → t % d ≤ j) → age d t (age d t j) ≡ j
    go true a b =
        let u = a tt in
        rw (age_newer d t j u inside) (age_newer d t (t % d - suc j) (omega arith) inside ∙ omega arith)
    go false a b =
        let u = b tt in
        rw (age_older d t j u l) (age_older d t (t % d + d - suc j) (omega arith) (omega arith) ∙ omega arith)

module _ {A : Type 0} where
  -- ---- what a ring gives, and what it is at rest
  pub ring_read : {z : A} {d at : ℕ} {cell : ℕ → A} {h : List A} → Ring z d at cell h → cell at ≡ back z (d - 1) h
  ring_read {z} {d} {at} {cell} {h} r =
      let l = r.inside in
      let e : at + d - suc at ≡ d - 1 = omega arith in
      r.older at (omega arith) l ∙ ap (λ (n : ℕ). back z n h) e

  -- silent cells are a ring of no history, wherever the position is: a reset need not move it
  pub ring_silent : {z : A} {d at : ℕ} {cell : ℕ → A} → at < d → ((i : ℕ) → i < d → cell i ≡ z) → Ring z d at cell []
  ring_silent l s = record { inside = l; newer = λ i u. s i (omega arith); older = λ i u v. s i v }

  -- ---- x is written at the position, and all else is as it was
  module _ {z : A} {d at : ℕ} {cell : ℕ → A} {h : List A} (r : Ring z d at cell h) (new : ℕ → A) (x : A) (here : new at ≡ x) (there : (i : ℕ) → i < d → i ≢ at → new i ≡ cell i) where
    older_by_one : (i n : ℕ) → i < d → i ≢ at → (m : ℕ) → cell i ≡ back z m h → suc m ≡ n → new i ≡ back z n (x ∷ h)
    older_by_one i n l ne m p e = there i l ne ∙ p ∙ ap (λ (k : ℕ). back z k (x ∷ h)) e

    newest : (i n : ℕ) → i ≡ at → 0 ≡ n → new i ≡ back z n (x ∷ h)
    newest i n e o = ap new e ∙ here ∙ ap (λ (k : ℕ). back z k (x ∷ h)) o

    ne_of_lt : (i : ℕ) → i < at → i ≢ at
    ne_of_lt i l e = omega arith

    ne_of_gt : (i : ℕ) → at < i → i ≢ at
    ne_of_gt i l e = omega arith

    onward : suc at < d → Ring z d (suc at) new (x ∷ h)
    onward s =
        record {
          inside = s;
          newer = λ i u. go i u (ltb i at) (ltb→lt i at) (nltb→le i at);
          older = λ i u v. older_by_one i (suc at + d - suc i) v (ne_of_gt i u) (at + d - suc i) (r.older i (omega arith) v) (omega arith);
        }
      where
        go : (i : ℕ) → i < suc at → (t : Bool) → (T t → i < at) → (T (not t) → at ≤ i) → new i ≡ back z (suc at - suc i) (x ∷ h)
        go i u true a b = let l : i < at = a tt in let k = r.inside in older_by_one i (suc at - suc i) (omega arith) (ne_of_lt i l) (at - suc i) (r.newer i l) (omega arith)
        go i u false a b = let l : at ≤ i = b tt in newest i (suc at - suc i) (omega arith) (omega arith)

    around : suc at ≡ d → Ring z d 0 new (x ∷ h)
    around s =
        record {
          inside = omega arith;
          newer = λ i u. absurd (omega arith);
          older = λ i u v. go i v (ltb i at) (ltb→lt i at) (nltb→le i at);
        }
      where
        go : (i : ℕ) → i < d → (t : Bool) → (T t → i < at) → (T (not t) → at ≤ i) → new i ≡ back z (0 + d - suc i) (x ∷ h)
        go i v true a b = let l : i < at = a tt in older_by_one i (0 + d - suc i) v (ne_of_lt i l) (at - suc i) (r.newer i l) (omega arith)
        go i v false a b = let l : at ≤ i = b tt in newest i (0 + d - suc i) (omega arith) (omega arith)

    pub ring_push : Ring z d (turned d at) new (x ∷ h)
    unfolding turned
    ring_push = go (eqb (suc at) d) (eqb→eq (suc at) d) (λ (e : suc at ≡ d). subst (λ (n : ℕ). T (eqb (suc at) n)) e (eqb_refl (suc at)))
      where
        go : (t : Bool) → (T t → suc at ≡ d) → (suc at ≡ d → T t) → Ring z d (cond t 0 (suc at)) new (x ∷ h)
        go true a b = around (a tt)
        go false a b = let l = r.inside in let ne : suc at ≢ d = λ (e : suc at ≡ d). b e in onward (omega arith)

  -- ---- the ring of the cells from `base` on of a flat list
  pub ring_stored : {z : A} {d at : ℕ} {h : List A} (base : ℕ) (l : List A) (x : A) → base + d ≤ length l → Ring z d at (λ i. get_or l (base + i) z) h → Ring z d (turned d at) (λ i. get_or (set l (base + at) x) (base + i) z) (x ∷ h)
  ring_stored {z} {d} {at} {h} base l x room r =
      let k = r.inside in
      ring_push r (λ i. get_or (set l (base + at) x) (base + i) z) x
      (get_or-set_same l (base + at) x z (omega arith))
      (λ i u ne. get_or-set_other l (base + at) (base + i) x z (λ (e : base + i ≡ base + at). ne (omega arith)))

  -- cells that read the same are the same ring: a store elsewhere leaves it
  pub ring_same : {z : A} {d at : ℕ} {cell new : ℕ → A} {h : List A} → ((i : ℕ) → i < d → new i ≡ cell i) → Ring z d at cell h → Ring z d at new h
  ring_same e r =
      let l = r.inside in
      record { inside = l; newer = λ i u. e i (omega arith) ∙ r.newer i u; older = λ i u v. e i v ∙ r.older i u v }

  -- ---- any cells hold some history, and a history and a position leave no cell open
  aged_newer : (d at : ℕ) (cell : ℕ → A) (i : ℕ) → i < at → aged d at cell (at - suc i) ≡ cell i
  unfolding aged
  aged_newer d at cell i h = go (ltb (at - suc i) at) (nltb→le (at - suc i) at)
    where
      go : (t : Bool) → (T (not t) → at ≤ at - suc i) → cond t (cell (at - suc (at - suc i))) (cell (at + d - suc (at - suc i))) ≡ cell i
      go true n = ap cell (omega arith)
      go false n = let l : at ≤ at - suc i = n tt in absurd (omega arith)

  aged_older : (d at : ℕ) (cell : ℕ → A) (i : ℕ) → at ≤ i → i < d → aged d at cell (at + d - suc i) ≡ cell i
  unfolding aged
  aged_older d at cell i h l = go (ltb (at + d - suc i) at) (ltb→lt (at + d - suc i) at)
    where
      go : (t : Bool) → (T t → at + d - suc i < at) → cond t (cell (at - suc (at + d - suc i))) (cell (at + d - suc (at + d - suc i))) ≡ cell i
      go true n = let u : at + d - suc i < at = n tt in absurd (omega arith)
      go false n = ap cell (omega arith)

  pub ring_some : (z : A) (d at : ℕ) (cell : ℕ → A) → at < d → Ring z d at cell (tabulate (aged d at cell) d)
  ring_some z d at cell l =
      record {
        inside = l;
        newer = λ i u. sym (tabulate_at (aged d at cell) d (at - suc i) z (omega arith) ∙ aged_newer d at cell i u);
        older = λ i u v. sym (tabulate_at (aged d at cell) d (at + d - suc i) z (omega arith) ∙ aged_older d at cell i u v);
      }

  pub ring_one : {z : A} {d at : ℕ} {cell new : ℕ → A} {h : List A} → Ring z d at cell h → Ring z d at new h → (i : ℕ) → i < d → cell i ≡ new i
  ring_one {z} {d} {at} {cell} {new} r s i l = go (ltb i at) (ltb→lt i at) (nltb→le i at)
    where
      go : (t : Bool) → (T t → i < at) → (T (not t) → at ≤ i) → cell i ≡ new i
      go true a b = r.newer i (a tt) ∙ sym (s.newer i (a tt))
      go false a b = r.older i (b tt) l ∙ sym (s.older i (b tt) l)

  -- ---- the cells by their ages
  pub ring_cell_lem : {z : A} {d : ℕ} {cell : ℕ → A} {h : List A} (t : ℕ) → Ring z d (t % d) cell h → (j : ℕ) → j < d → cell j ≡ back z (age d t j) h
  ring_cell_lem {z} {d} {cell} {h} t r j l = go (ltb j (t % d)) (ltb→lt j (t % d)) (nltb→le j (t % d))
    where
      go : (b : Bool) → (T b → j < t % d) → (T (not b) → t % d ≤ j) → cell j ≡ back z (age d t j) h
      go true a b = r.newer j (a tt) ∙ ap (λ (n : ℕ). back z n h) (sym (age_newer d t j (a tt) r.inside))
      go false a b = r.older j (b tt) l ∙ ap (λ (n : ℕ). back z n h) (sym (age_older d t j (b tt) l))

  pub ring_of : (z : A) (d t : ℕ) (cell : ℕ → A) (h : List A) → 0 < d → ((j : ℕ) → j < d → cell j ≡ back z (age d t j) h) → Ring z d (t % d) cell h
  ring_of z d t cell h some is =
      record {
        inside = inside;
        newer = λ i u. is i (omega (arith, inside)) ∙ ap (λ (n : ℕ). back z n h) (age_newer d t i u inside);
        older = λ i u v. is i v ∙ ap (λ (n : ℕ). back z n h) (age_older d t i u v);
      }
    where
      inside : t % d < d
      inside = mod-lt t some
