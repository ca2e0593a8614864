-- A flat list in rows of one stride: each row stands at its number times the stride, and a loop that replaces row after row leaves the rest as it was. Assumes nothing.
use mathlib.Core.Path.{◌≡◌, refl, sym, ap, ◌∙◌}
use mathlib.Core.Logic.{◌⊎◌, inl, inr, ◌≢◌}
use mathlib.Core.Bool.{Bool, true, false, not}
use mathlib.Core.List.{List, [], ◌∷◌, ◌++◌}
use Prim.Native.Nat.{ℕ, zero, suc, ◌+◌, ◌*◌, ◌-◌, ◌≤◌, ◌<◌}
use native.Mathlib.Numerals.{add-one}
use native.Mathlib.Nat.{le_refl, eq-or-lt_of_le, mul-le-mul_right, suc-mul, zero-mul}
use native.Mathlib.Omega.{arith}
use lib.Arith.{lt_of_le-ne}
use lib.Dec.{T, ltb, ltb→lt, nltb→le}
use lib.ListN.{length, take, get_or, set, length-append}
use lib.Seq.{take-add, take_all, drop_at}
use Rattle.lists.specs.Part.{part, put}
use Rattle.lists.specs.Rows.{rows}
use Rattle.lists.proofs.Parts.{part_front, part_at, part_put_before, part_put_behind}
use Rattle.lists.proofs.Front.{Front, front_none, front_put, front_pair, front_all}

module _ {A : Type 0} where
  -- rows that agree make lists that agree
  pub rows_same : (f g : ℕ → List A) (n : ℕ) → ((k : ℕ) → k < n → f k ≡ g k) → rows f n ≡ rows g n
  unfolding rows
  rows_same f g zero h = refl
  rows_same f g (suc n) h =
      let e : rows f n ≡ rows g n = rows_same f g n (λ k u. h k (omega arith)) in
      let r : f n ≡ g n = h n (le_refl (suc n)) in
      cc

  -- ---- rows of w elements each
  module _ (f : ℕ → List A) (w : ℕ) where
    pub rows_length : (n : ℕ) → ((k : ℕ) → k < n → length (f k) ≡ w) → length (rows f n) ≡ n * w
    unfolding rows
    rows_length zero h = sym (zero-mul w)
    rows_length (suc n) h = rw (length-append, rows_length n (λ k u. h k (omega arith)), h n (le_refl (suc n)), suc-mul)

    pub rows_part : (n : ℕ) → ((k : ℕ) → k < n → length (f k) ≡ w) → (k : ℕ) → k < n → part (k * w) w (rows f n) ≡ f k
    unfolding rows
    rows_part zero h k u = absurd (omega arith)
    rows_part (suc n) h k u = go (eq-or-lt_of_le at_most) (λ v. rows_part n (λ j u. h j (omega arith)) k v)
      where
        at_most : k ≤ n
        at_most = omega arith

        front : length (rows f n) ≡ n * w
        front = rows_length n (λ j v. h j (omega arith))

        go : (k ≡ n) ⊎ (k < n) → (k < n → part (k * w) w (rows f n) ≡ f k) → part (k * w) w (rows f n ++ f n) ≡ f k
        go (inl e) before = rw (e, drop_at (rows f n) (f n) (n * w) front) (take_all w (f n) (rw (h n (le_refl (suc n))) (le_refl w)))
        go (inr v) before =
            part_front (k * w) w (rows f n) (f n) (rw front (omega (arith, suc-mul k w, mul-le-mul_right {m = suc k} {n = n} w v)))
            ∙ before v

    pub rows_at : (n : ℕ) → ((k : ℕ) → k < n → length (f k) ≡ w) → (k i : ℕ) (d : A) → k < n → i < w → get_or (rows f n) (k * w + i) d ≡ get_or (f k) i d
    rows_at n h k i d u v = sym (part_at (k * w) w (rows f n) i d v) ∙ ap (λ (t : List A). get_or t i d) (rows_part n h k u)

  -- ---- a list cut into rows, and joined again
  pub rows_cut : (w n : ℕ) (xs : List A) → rows (λ k. part (k * w) w xs) n ≡ take (n * w) xs
  unfolding rows
  rows_cut w zero xs = rw zero-mul
  rows_cut w (suc n) xs = rw (suc-mul, take-add, rows_cut w n xs)

  pub rows_whole : (w n : ℕ) (xs : List A) → length xs ≡ n * w → rows (λ k. part (k * w) w xs) n ≡ xs
  rows_whole w n xs h = rows_cut w n xs ∙ take_all (n * w) xs (omega arith)

  -- ---- a row that is written leaves every other row as it was
  pub row_apart : (w k j : ℕ) (xs ys : List A) → j * w + w ≤ length xs → length ys ≡ w → k ≢ j → part (k * w) w (put (j * w) w xs ys) ≡ part (k * w) w xs
  row_apart w k j xs ys room h ne = go (ltb k j) (ltb→lt k j) (nltb→le k j)
    where
      inside : j * w ≤ length xs
      inside = omega arith

      go : (t : Bool) → (T t → k < j) → (T (not t) → j ≤ k) → part (k * w) w (put (j * w) w xs ys) ≡ part (k * w) w xs
      go true a b =
          let l : suc k ≤ j = a tt in
          part_put_before (j * w) w xs ys inside (k * w) w (omega (arith, suc-mul k w, mul-le-mul_right {m = suc k} {n = j} w l))
      go false a b =
          let m : j ≤ k = b tt in
          let l : suc j ≤ k = lt_of_le-ne m (λ (e : j ≡ k). ne (sym e)) in
          part_put_behind (j * w) w xs ys inside (k * w) w h (omega (arith, suc-mul j w, mul-le-mul_right {m = suc j} {n = k} w l))

  -- ---- a loop that replaces row after row: k rows, n elements in all, are done. A record, so that f and k can be implicit below
  pub record Rowed (f : ℕ → List A) (k n : ℕ) (d l : List A) : Type 0 where
    pub front : Front (rows f k) n d l

  pub rowed_none : (f : ℕ → List A) (d : List A) → Rowed f 0 0 d d
  unfolding rows
  rowed_none f d = record { front = front_none d }

  module _ {f : ℕ → List A} {k n : ℕ} {d l : List A} (r : Rowed f k n d l) where
    -- once the row that is lent is back, a row more is done
    pub rowed_more : {next : ℕ} (w : ℕ) (ys : List A) → ys ≡ f k → length ys ≡ w → next ≡ n + w → Rowed f (k + 1) next d (put n (n + w - n) l ys)
    unfolding rows
    rowed_more {next} w ys e h en = record { front = rw (add-one k, en, ← e) (front_put r.front w ys h) }

    -- a row of two, as a complex number is stored
    pub rowed_pair : {next : ℕ} (u v : A) → u ∷ v ∷ [] ≡ f k → n + 1 < length d → next ≡ n + 2 → Rowed f (k + 1) next d (set (set l n u) (n + 1) v)
    unfolding rows
    rowed_pair {next} u v e h en = record { front = rw (add-one k, en, ← e) (front_pair r.front u v h) }

    -- at the end the counter is m
    pub rowed_all : (m : ℕ) → k ≡ m → length d ≤ n → l ≡ rows f m
    rowed_all m e h = front_all r.front h ∙ ap (rows f) e
