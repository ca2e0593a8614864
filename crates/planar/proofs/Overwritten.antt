-- A run whose first n complex numbers are new and whose others are as they were: a store of number n adds one. Assumes nothing.
use mathlib.Core.Path.{◌≡◌, refl, sym, ap, ◌∙◌}
use mathlib.Core.Bool.{Bool, true, false, cond}
use mathlib.Core.List.{List}
use Prim.Native.Nat.{ℕ, ◌+◌, ◌<◌}
use native.Mathlib.Omega.{arith}
use borrow.Author.Tests.{eqb-true, eqb-false, lt-ltb, le-ltb, ltb-true, ltb-false}
use lib.Dec.{eqb, ltb}
use lib.Ieee.{Float}
use lib.ListN.{length}
use Rattle.complex.specs.declared.Complex.{Complex}
use Rattle.planar.specs.Cells.{cell, stored, planar, overwritten}
use Rattle.planar.proofs.Cells.{stored_length, stored_same, stored_other, planar_is, planar_at, planar_length}

pub record Overwrites (apart : ℕ) (new : ℕ → Complex) (n : ℕ) (old : ℕ → Complex) (out : List Float) : Type 0 where
  pub long : length out ≡ apart + apart
  pub cells : (i : ℕ) → i < apart → cell apart out i ≡ overwritten n new old i

pub overwrites_none : (apart : ℕ) (new : ℕ → Complex) (xs : List Float) → length xs ≡ apart + apart → Overwrites apart new 0 (cell apart xs) xs
overwrites_none apart new xs long = record { long = long; cells = λ i u. rw (le-ltb i 0 (omega arith)) }

module _ {apart : ℕ} {new : ℕ → Complex} {n : ℕ} {old : ℕ → Complex} {out : List Float} (r : Overwrites apart new n old out) where
  pub overwrites_more : (v : Complex) → v ≡ new n → n < apart → Overwrites apart new (n + 1) old (stored apart out n v)
  overwrites_more v is room = record { long = stored_length apart out n v ∙ r.long; cells = λ i u. at i u (eqb i n) refl }
    where
      -- a slot before or behind n is tested alike
      alike : (i : ℕ) → (i ≡ n → ⊥) → ltb i n ≡ ltb i (n + 1)
      alike i other = by (ltb i n) refl
        where
          by : (t : Bool) → ltb i n ≡ t → t ≡ ltb i (n + 1)
          by true e = sym (lt-ltb i (n + 1) (omega (arith, ltb-true i n e)))
          by false e = sym (le-ltb i (n + 1) (omega (arith, ltb-false i n e)))

      at : (i : ℕ) → i < apart → (t : Bool) → eqb i n ≡ t → cell apart (stored apart out n v) i ≡ overwritten (n + 1) new old i
      at i u true e =
          let here : i ≡ n = eqb-true i n e in
          let written : ltb n (n + 1) ≡ true = lt-ltb n (n + 1) (omega arith) in
          rw (here, written) (stored_same apart out n v room (omega (arith, r.long)) ∙ is)
      at i u false e =
          let other = eqb-false i n e in
          stored_other apart out n v i room u other ∙ r.cells i u ∙ ap (λ (t : Bool). cond t (new i) (old i)) (alike i other)

  pub overwrites_all : out ≡ planar apart (overwritten n new old)
  overwrites_all = planar_is apart out (overwritten n new old) r.long r.cells

-- ---- the same of lists

pub overwritten_none : (apart : ℕ) (new : ℕ → Complex) (xs : List Float) → length xs ≡ apart + apart
    → xs ≡ planar apart (overwritten 0 new (cell apart xs))
overwritten_none apart new xs long = overwrites_all (overwrites_none apart new xs long)

pub overwritten_more : (apart : ℕ) (new old : ℕ → Complex) (n : ℕ) → n < apart
    → stored apart (planar apart (overwritten n new old)) n (new n) ≡ planar apart (overwritten (n + 1) new old)
overwritten_more apart new old n room =
    let so_far : Overwrites apart new n old (planar apart (overwritten n new old)) =
    record { long = planar_length apart (overwritten n new old); cells = planar_at apart (overwritten n new old) } in
    overwrites_all (overwrites_more so_far (new n) refl room)
