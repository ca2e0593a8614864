-- A list in a fixed number of places is the list, and then what a loop that wrote it left untouched. Assumes nothing.
use mathlib.Core.Path.{◌≡◌, refl, sym, ap, ◌∙◌}
use mathlib.Core.List.{List, [], ◌∷◌, ◌++◌}
use Prim.Native.Nat.{ℕ, zero, suc, ◌+◌, ◌-◌, ◌≤◌}
use native.Mathlib.Nat.{not-suc-le-zero, le_of_suc-le-suc, sub-zero, zero-sub, suc-sub-suc}
use native.Mathlib.Omega.{arith}
use lib.ListN.{length, take, drop, replicate, length-append, length-take, length-replicate}
use lib.Seq.{length-take-le, take-append-add, take-append_seam}
use Rattle.lists.specs.Padded.{padded}
use Rattle.lists.proofs.Fills.{Filled, filled_all}
use Rattle.lists.proofs.Front.{Front}

module _ {A : Type 0} (z : A) where
  drop_replicate : (k n : ℕ) → drop k (replicate n z) ≡ replicate (n - k) z
  drop_replicate zero n = rw sub-zero
  drop_replicate (suc k) zero = rw zero-sub
  drop_replicate (suc k) (suc n) = rw suc-sub-suc (drop_replicate k n)

  pub take_replicate : (k n : ℕ) → k ≤ n → take k (replicate n z) ≡ replicate k z
  take_replicate zero n h = refl
  take_replicate (suc k) zero h = absurd (not-suc-le-zero h)
  take_replicate (suc k) (suc n) h = ap (λ (t : List A). z ∷ t) (take_replicate k n (le_of_suc-le-suc h))

  -- the list, and the rest of the places
  pub padded_front : (n : ℕ) (l : List A) → length l ≤ n → padded n z l ≡ l ++ drop (length l) (replicate n z)
  padded_front n l h =
      let over : n ≡ length l + (n - length l) = omega arith in
      ap (λ (m : ℕ). take m (l ++ replicate n z)) over
      ∙ take-append-add l (replicate n z) (n - length l)
      ∙ ap (λ (t : List A). l ++ t) (take_replicate (n - length l) n (omega arith) ∙ sym (drop_replicate (length l) n))

  pub padded_length : (n : ℕ) (l : List A) → length (padded n z l) ≡ n
  padded_length n l = simp (length-take, length-append, length-replicate) (omega arith)

  -- what was padded is there again
  pub padded_take : (n : ℕ) (l : List A) → length l ≤ n → take (length l) (padded n z l) ≡ l
  padded_take n l h = ap (take (length l)) (padded_front n l h) ∙ take-append_seam l (drop (length l) (replicate n z))

  -- a loop that wrote the whole into n places that padded z alone, when its goal went by what was left
  pub padded_filled : (n : ℕ) {whole l : List A} {i : ℕ} → Filled [] whole (replicate n z) l i → l ≡ padded n z whole
  padded_filled n {whole} {l} {i} f =
      let wide : length (replicate n z) ≡ n = length-replicate n z in
      let done : length (take i l) ≡ i = length-take-le i l (omega (arith, f.long, f.room)) in
      let few : length whole ≤ n = omega (arith, simp length-append at (ap length f.front), f.room) in
      filled_all f ∙ sym (padded_front n whole few)

  -- and when it went by what was done
  pub padded_written : (n : ℕ) {m : ℕ} {p l : List A} → Front p m (replicate n z) l → m ≤ n → l ≡ padded n z p
  padded_written n {m} {p} {l} r h =
      r.is ∙ ap (λ (k : ℕ). p ++ drop k (replicate n z)) (sym r.done) ∙ sym (padded_front n p (rw r.done h))
