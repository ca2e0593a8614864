-- Rows of which only a part is written anew, one after the other: the part may as well be put back into its row, and the row into the list.
-- Assumes nothing.
use mathlib.Core.Path.{◌≡◌, refl, sym, ap, ◌∙◌}
use mathlib.Core.List.{List, ◌++◌, append_assoc}
use Prim.Native.Nat.{ℕ, ◌+◌, ◌-◌, ◌≤◌}
use native.Mathlib.Nat.{add-sub_cancel_left}
use native.Mathlib.Omega.{arith}
use lib.ListN.{length, drop, length-append, length-take, length-drop, take-append-drop}
use lib.Seq.{take-add, take-take, drop-drop, drop-append-le}
use Rattle.lists.specs.Part.{part, put}
use Rattle.lists.proofs.Front.{front_lent, front_long}
use Rattle.lists.proofs.Parts.{part_length}
use Rattle.lists.proofs.Rows.{Rowed, rowed_more}

module _ {A : Type 0} where
  pub put_inner : (n w a v : ℕ) (xs ys : List A) → n + w ≤ length xs → a + v ≤ w → put (n + a) v xs ys ≡ put n w xs (put a v (part n w xs) ys)
  put_inner n w a v xs ys room inside =
      rw (take-add n a xs, ← drop-drop a n xs, ← rest) (simp (append_assoc, take-take a w (drop n xs) (omega arith)))
    where
      rest : drop v (drop a (part n w xs)) ++ drop w (drop n xs) ≡ drop v (drop a (drop n xs))
      rest =
          ap (λ (t : List A). t ++ drop w (drop n xs)) (drop-drop v a (part n w xs))
          ∙ sym (drop-append-le (a + v) (part n w xs) (drop w (drop n xs)) (omega (arith, part_length n w xs room)))
          ∙ ap (drop (a + v)) (take-append-drop w (drop n xs))
          ∙ sym (drop-drop v a (drop n xs))

  -- a loop of which each turn writes a part of its row: k rows, n elements in all, are done
  module _ {f : ℕ → List A} {k n : ℕ} {d l : List A} (r : Rowed f k n d l) (w a v : ℕ) (inside : a + v ≤ w) (room : n + w ≤ length d) where
    pub rowed_part : {next : ℕ} (ys : List A) → put a v (part n w d) ys ≡ f k → length ys ≡ v → next ≡ n + w → Rowed f (k + 1) next d (put (n + a) (n + a + v - (n + a)) l ys)
    rowed_part ys e long en = rw same (rowed_more r w (f k) refl whole en)
      where
        lent : part n w l ≡ part n w d
        lent = rw (add-sub_cancel_left n w) at (front_lent r.front w)

        same : put (n + a) (n + a + v - (n + a)) l ys ≡ put n (n + w - n) l (f k)
        same =
            rw (add-sub_cancel_left (n + a) v, add-sub_cancel_left n w)
            (put_inner n w a v l ys (omega (arith, front_long r.front (omega arith))) inside ∙ ap (put n w l) (ap (λ (t : List A). put a v t ys) lent ∙ e))

        whole : length (f k) ≡ w
        whole = ap length (sym e) ∙ simp (length-append, length-take, length-drop) (omega (arith, part_length n w d room))
