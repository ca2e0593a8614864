-- Indices that fit an i8: lists of them, and that they are unpacked as they were packed. Assumes nothing.
use mathlib.Core.Path.{◌≡◌, sym, ap, ap₂, ◌∙◌}
use mathlib.Core.Bool.{Bool, true, false, cond}
use mathlib.Core.List.{List, [], ◌∷◌, ◌++◌}
use Prim.Native.Nat.{ℕ, zero, suc, ◌+◌, ◌*◌, ◌<◌}
use native.Mathlib.Numerals.{add-one}
use native.Mathlib.Omega.{arith}
use lib.IntN.{ℤ, pos}
use lib.Ieee.{nan}
use lib.ListN.{length, take, drop, get_or, replicate}
use lib.Seq.{drop-cons, get_or-drop}
use lib.Signed.{mag}
use Rattle.exact_numbers.specs.Numbers.{kept_pair}
use Rattle.exact_numbers.proofs.Back.{first_back, second_back}
use Rattle.lists.specs.Part.{part}
use Rattle.lists.specs.Rows.{rows}
use Rattle.lists.proofs.Maps.{tabulate_length, tabulate_at}
use Rattle.lists.proofs.Rows.{rows_same, rows_whole}
use Rattle.ps_memory.specs.Packed.{packed, both, unpacked}
use Rattle.ps_memory.specs.Shape.{Narrow}

-- what holds of two things holds of a choice of them
pub either : {A : Type 0} (P : A → Type 0) (t : Bool) (x y : A) → P x → P y → P (cond t x y)
either P true x y p q = p
either P false x y p q = q

-- ---- lists of small numbers

pub narrow_none : Narrow []
narrow_none = record { at = λ i. omega arith }

pub narrow_more : (z : ℤ) (v : List ℤ) → mag z < 128 → Narrow v → Narrow (z ∷ v)
narrow_more z v h n = record { at = at }
  where
    at : (i : ℕ) → mag (get_or (z ∷ v) i (pos 0)) < 128
    at zero = h
    at (suc i) = n.at i

pub narrow_append : (v w : List ℤ) → Narrow v → Narrow w → Narrow (v ++ w)
narrow_append [] w n m = m
narrow_append (z ∷ v) w n m = narrow_more z (v ++ w) (n.at 0) (narrow_append v w (record { at = λ i. n.at (suc i) }) m)

pub narrow_rows : (f : ℕ → List ℤ) (n : ℕ) → ((k : ℕ) → Narrow (f k)) → Narrow (rows f n)
unfolding rows
narrow_rows f zero h = narrow_none
narrow_rows f (suc n) h = narrow_append (rows f n) (f n) (narrow_rows f n h) (h n)

pub narrow_zeros : (n : ℕ) → Narrow (replicate n (pos 0))
narrow_zeros zero = narrow_none
narrow_zeros (suc n) = narrow_more (pos 0) (replicate n (pos 0)) (omega arith) (narrow_zeros n)

pub narrow_take : (n : ℕ) (v : List ℤ) → Narrow v → Narrow (take n v)
narrow_take zero v h = narrow_none
narrow_take (suc n) [] h = narrow_none
narrow_take (suc n) (z ∷ v) h = narrow_more z (take n v) (h.at 0) (narrow_take n v (record { at = λ i. h.at (suc i) }))

pub narrow_drop : (n : ℕ) (v : List ℤ) → Narrow v → Narrow (drop n v)
narrow_drop n v h = record { at = λ i. rw (get_or-drop n v i (pos 0)) (h.at (n + i)) }

-- ---- what is packed

pub packed_length : (n : ℕ) (v : List ℤ) → length (packed n v) ≡ n
unfolding packed
packed_length n v = tabulate_length (λ i. kept_pair (get_or v (2 * i) (pos 0)) (get_or v (2 * i + 1) (pos 0))) n

both_back : (a b : ℤ) → mag a < 128 → mag b < 128 → both (kept_pair a b) ≡ a ∷ b ∷ []
both_back a b h k = ap₂ (λ (x y : ℤ). x ∷ y ∷ []) (first_back a b h k) (second_back a b h k)

-- two elements of a list
two_of : (v : List ℤ) (i : ℕ) → 2 * i + 1 < length v → get_or v (2 * i) (pos 0) ∷ get_or v (2 * i + 1) (pos 0) ∷ [] ≡ part (i * 2) 2 v
two_of v i h =
    let place : i * 2 ≡ 2 * i = omega arith in
    let rest : drop (2 * i) v ≡ get_or v (2 * i) (pos 0) ∷ get_or v (2 * i + 1) (pos 0) ∷ drop (suc (suc (2 * i))) v =
    drop-cons v (2 * i) (pos 0) (omega arith)
    ∙ ap (λ (t : List ℤ). get_or v (2 * i) (pos 0) ∷ t)
    (drop-cons v (suc (2 * i)) (pos 0) (omega arith) ∙ ap (λ (k : ℕ). get_or v k (pos 0) ∷ drop (suc (suc (2 * i))) v) (sym (add-one (2 * i)))) in
    sym (ap (λ (k : ℕ). take 2 (drop k v)) place ∙ ap (take 2) rest)

pub packed_back : (n : ℕ) (v : List ℤ) → length v ≡ n * 2 → Narrow v → unpacked n (packed n v) ≡ v
unfolding unpacked packed
packed_back n v l h =
    rows_same (λ i. both (get_or (packed n v) i nan)) (λ i. part (i * 2) 2 v) n
    (λ i u.
    ap both (tabulate_at (λ j. kept_pair (get_or v (2 * j) (pos 0)) (get_or v (2 * j + 1) (pos 0))) n i nan u)
    ∙ both_back (get_or v (2 * i) (pos 0)) (get_or v (2 * i + 1) (pos 0)) (h.at (2 * i)) (h.at (2 * i + 1))
    ∙ two_of v i (omega arith))
    ∙ rows_whole 2 n v l
