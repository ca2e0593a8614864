-- Complex numbers side by side, each a pair: what a store of one pair leaves, and a loop that writes pair after pair. Assumes nothing.
use mathlib.Core.Path.{◌≡◌, refl, ◌∙◌}
use mathlib.Core.Logic.{◌⊎◌, inl, inr, ◌≢◌}
use mathlib.Core.List.{List}
use Prim.Native.Nat.{ℕ, ◌+◌, ◌*◌, ◌<◌, ◌≤◌}
use native.Mathlib.Nat.{eq-or-lt_of_le}
use native.Mathlib.Omega.{arith}
use lib.Ieee.{Float, nan}
use lib.ListN.{length, set, length-set}
use lib.Seq.{get_or-set_same, get_or-set_other}
use Rattle.complex.specs.declared.Complex.{Complex}
use Rattle.planar.specs.Cells.{cell, stored}
use Rattle.planar.proofs.Cells.{by_parts, stored_length}

-- ---- one pair that is stored
module _ (xs : List Float) (i : ℕ) (v : Complex) where
  pub pair_same : i + 1 < length xs → cell 1 (stored 1 xs i v) i ≡ v
  pair_same room =
      by_parts
      (get_or-set_other (set xs i v.re) (i + 1) i v.im nan (λ (e : i ≡ i + 1). omega arith) ∙ get_or-set_same xs i v.re nan (omega arith))
      (get_or-set_same (set xs i v.re) (i + 1) v.im nan (simp length-set room))

  -- a pair that has no number in common with it
  pub pair_other : (k : ℕ) → k ≢ i → k ≢ i + 1 → k + 1 ≢ i → cell 1 (stored 1 xs i v) k ≡ cell 1 xs k
  pair_other k a b d =
      by_parts
      (get_or-set_other (set xs i v.re) (i + 1) k v.im nan b ∙ get_or-set_other xs i k v.re nan a)
      (get_or-set_other (set xs i v.re) (i + 1) (k + 1) v.im nan (λ (e : k + 1 ≡ i + 1). a (omega arith)) ∙ get_or-set_other xs i (k + 1) v.re nan d)

-- ---- a loop over pairs: the first `count` are f's
pub record Paired (f : ℕ → Complex) (count : ℕ) (old new : List Float) : Type 0 where
  pub long : length new ≡ length old
  pub each : (j : ℕ) → j < count → cell 1 new (2 * j) ≡ f j

pub paired_none : (f : ℕ → Complex) (xs : List Float) → Paired f 0 xs xs
paired_none f xs = record { long = refl; each = λ j u. absurd (omega arith) }

module _ {f : ℕ → Complex} {count : ℕ} {old new : List Float} (r : Paired f count old new) where
  pub paired_more : (v : Complex) → v ≡ f count → 2 * count + 1 < length old → Paired f (count + 1) old (stored 1 new (2 * count) v)
  paired_more v is room =
      record { long = stored_length 1 new (2 * count) v ∙ r.long; each = λ j u. one j (eq-or-lt_of_le (at_most j u)) }
    where
      at_most : (j : ℕ) → j < count + 1 → j ≤ count
      at_most j u = omega arith

      one : (j : ℕ) → (j ≡ count) ⊎ (j < count) → cell 1 (stored 1 new (2 * count) v) (2 * j) ≡ f j
      one j (inl e) = rw e (pair_same new (2 * count) v (omega (arith, r.long)) ∙ is)
      one j (inr l) =
          pair_other new (2 * count) v (2 * j) (λ (e : 2 * j ≡ 2 * count). omega arith) (λ (e : 2 * j ≡ 2 * count + 1). omega arith)
          (λ (e : 2 * j + 1 ≡ 2 * count). omega arith)
          ∙ r.each j l
