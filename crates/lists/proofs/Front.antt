-- A loop that writes a list from the front, when its goal goes by what is done: p is written, n elements of it, and the rest is as it was. Assumes nothing.
use mathlib.Core.Path.{◌≡◌, refl, sym, ap, ◌∙◌}
use mathlib.Core.List.{List, [], ◌∷◌, ◌++◌, append_assoc, append-nil}
use Prim.Native.Nat.{ℕ, suc, ◌+◌, ◌-◌, ◌<◌, ◌≤◌}
use native.Mathlib.Numerals.{add-one}
use native.Mathlib.Nat.{add-sub_cancel_left}
use native.Mathlib.Omega.{arith}
use lib.ListN.{length, take, drop, get_or, set, length-append, length-drop, drop_of_length-le, take-append-drop, get_or-append}
use lib.Seq.{take_at, drop_at, drop-drop, drop-cons, set_at, append_snoc, length-take-le, get_or-drop, get_or-append-add}
use Rattle.lists.specs.Part.{part, put}

module _ {A : Type 0} where
  pub record Front (p : List A) (n : ℕ) (d l : List A) : Type 0 where
    pub done : length p ≡ n
    pub is : l ≡ p ++ drop n d

  -- ---- at the start: nothing is written yet, or what stands before n is to stay
  pub front_none : (d : List A) → Front [] 0 d d
  front_none d = record { done = refl; is = refl }

  pub front_kept : (n : ℕ) (d : List A) → n ≤ length d → Front (take n d) n d d
  front_kept n d h = record { done = length-take-le n d h; is = sym (take-append-drop n d) }

  -- ---- at any turn
  module _ {p d l : List A} {n : ℕ} (r : Front p n d l) where
    pub front_long : n ≤ length d → length l ≡ length d
    front_long h = ap length r.is ∙ length-append p (drop n d) ∙ rw (r.done, length-drop) (omega arith)

    -- what is written reads so, and what is not reads as it was
    pub front_at : (i : ℕ) (x : A) → i < n → get_or l i x ≡ get_or p i x
    front_at i x h = ap (λ (t : List A). get_or t i x) r.is ∙ get_or-append p (drop n d) x i (rw r.done h)

    pub front_ahead : (i : ℕ) (x : A) → n ≤ i → get_or l i x ≡ get_or d i x
    front_ahead i x h =
        let past : length p + (i - n) ≡ i = omega (arith, r.done) in
        let over : n + (i - n) ≡ i = omega arith in
        ap (λ (t : List A). get_or t i x) r.is
        ∙ ap (λ (m : ℕ). get_or (p ++ drop n d) m x) (sym past)
        ∙ get_or-append-add p (drop n d) (i - n) x
        ∙ get_or-drop n d (i - n) x
        ∙ ap (λ (m : ℕ). get_or d m x) over

    -- one element more
    pub front_store : (v : A) → n < length d → Front (p ++ (v ∷ [])) (n + 1) d (set l n v)
    front_store v h =
        record {
          done = simp (length-append, r.done);
          is = rw (r.is, drop-cons d n v h, set_at p (get_or d n v) (drop (suc n) d) v n r.done, add-one, append_snoc);
        }

    -- the part `l[n..n + w]` that is lent next is as it was, and once it is back, it is written
    pub front_lent : (w : ℕ) → part n (n + w - n) l ≡ part n w d
    front_lent w = rw (add-sub_cancel_left n w, r.is, drop_at p (drop n d) n r.done)

    pub front_put : (w : ℕ) (ys : List A) → length ys ≡ w → Front (p ++ ys) (n + w) d (put n (n + w - n) l ys)
    front_put w ys h =
        record {
          done = rw (length-append, r.done, h);
          is = rw (add-sub_cancel_left n w, r.is, take_at p (drop n d) n r.done, drop_at p (drop n d) n r.done, drop-drop, append_assoc);
        }

    -- all is written
    pub front_all : length d ≤ n → l ≡ p
    front_all h = rw (r.is, drop_of_length-le d h, append-nil)

  -- two elements more, as a complex number is stored
  pub front_pair : {p d l : List A} {n : ℕ} → Front p n d l → (u v : A) → n + 1 < length d → Front (p ++ (u ∷ v ∷ [])) (n + 2) d (set (set l n u) (n + 1) v)
  front_pair {p} {d} {l} {n} r u v h =
      let inside : n < length d = omega arith in
      let two : n + 1 + 1 ≡ n + 2 = omega arith in
      record {
        done = simp (length-append, r.done);
        is = (front_store (front_store r u inside) v h).is ∙ simp (two, append_assoc);
      }
