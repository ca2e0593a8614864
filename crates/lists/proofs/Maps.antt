-- A loop that writes f i at place i: a copy, a map and a fill are such lists, so one law serves them all. Assumes nothing.
use mathlib.Core.Path.{◌≡◌, refl, sym, ap, ◌∙◌}
use mathlib.Core.List.{List, [], ◌∷◌, ◌++◌, map}
use Prim.Native.Nat.{ℕ, ◌+◌, ◌*◌, ◌<◌, ◌≤◌}
use native.Mathlib.Numerals.{add-one}
use native.Mathlib.Nat.{mul-one}
use native.Mathlib.Omega.{arith}
use lib.ListN.{length, get_or, set, length-map, get_or-map}
use lib.Seq.{ext_get_or}
use Rattle.lists.specs.Rows.{rows, tabulate}
use Rattle.lists.proofs.Front.{Front, front_none, front_store, front_all}
use Rattle.lists.proofs.Rows.{rows_same, rows_length, rows_at}

module _ {A : Type 0} where
  pub tabulate_length : (f : ℕ → A) (n : ℕ) → length (tabulate f n) ≡ n
  tabulate_length f n = rows_length (λ i. f i ∷ []) 1 n (λ k u. refl) ∙ mul-one n

  pub tabulate_at : (f : ℕ → A) (n i : ℕ) (d : A) → i < n → get_or (tabulate f n) i d ≡ f i
  tabulate_at f n i d h =
      let here : i ≡ i * 1 + 0 = omega arith in
      ap (λ (j : ℕ). get_or (tabulate f n) j d) here ∙ rows_at (λ k. f k ∷ []) 1 n (λ k u. refl) i 0 d h (omega arith)

  pub tabulate_same : (f g : ℕ → A) (n : ℕ) → ((i : ℕ) → i < n → f i ≡ g i) → tabulate f n ≡ tabulate g n
  tabulate_same f g n h = rows_same (λ i. f i ∷ []) (λ i. g i ∷ []) n (λ i u. ap (λ (x : A). x ∷ []) (h i u))

  -- ---- the loop: n places are written. A record, so that f and n can be implicit below
  pub record Tabulated (f : ℕ → A) (n : ℕ) (d l : List A) : Type 0 where
    pub front : Front (tabulate f n) n d l

  pub tabulated_none : (f : ℕ → A) (d : List A) → Tabulated f 0 d d
  unfolding rows
  tabulated_none f d = record { front = front_none d }

  module _ {f : ℕ → A} {n : ℕ} {d l : List A} (r : Tabulated f n d l) where
    pub tabulated_more : (v : A) → v ≡ f n → n < length d → Tabulated f (n + 1) d (set l n v)
    unfolding rows
    tabulated_more v e h =
        let longer : tabulate f n ++ (v ∷ []) ≡ tabulate f (n + 1) = rw (add-one n, e) in
        record { front = rw longer at (front_store r.front v h) }

    -- at the end the counter is m
    pub tabulated_all : (m : ℕ) → n ≡ m → length d ≤ m → l ≡ tabulate f m
    tabulated_all m e h = front_all r.front (rw e h) ∙ ap (tabulate f) e

  -- ---- what such a list is: each element as it is
  pub copied : (l : List A) (d : A) → tabulate (λ i. get_or l i d) (length l) ≡ l
  copied l d =
      ext_get_or d (tabulate (λ i. get_or l i d) (length l)) l (tabulate_length (λ i. get_or l i d) (length l))
      (λ i h. tabulate_at (λ j. get_or l j d) (length l) i d (rw tabulate_length at h))

-- f of each element of another list
pub mapped : {A B : Type 0} (f : A → B) (l : List A) (d : A) → tabulate (λ i. f (get_or l i d)) (length l) ≡ map f l
mapped f l d =
    ext_get_or (f d) (tabulate (λ i. f (get_or l i d)) (length l)) (map f l) (tabulate_length (λ i. f (get_or l i d)) (length l) ∙ sym (length-map l f))
    (λ i h. tabulate_at (λ j. f (get_or l j d)) (length l) i (f d) (rw tabulate_length at h) ∙ sym (get_or-map f l i d))
