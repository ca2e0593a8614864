-- A loop that puts complex number after complex number into a row, and a second one that goes on where the first ended. Assumes nothing.
use mathlib.Core.Path.{◌≡◌, refl, sym, ap, ◌∙◌}
use mathlib.Core.List.{List, [], ◌∷◌}
use Prim.Native.Nat.{ℕ, ◌+◌, ◌*◌, ◌<◌, ◌≤◌}
use native.Mathlib.Omega.{arith}
use lib.Ieee.{Float}
use lib.ListN.{length, length-set}
use Rattle.complex.specs.declared.Complex.{Complex}
use Rattle.lists.proofs.Rows.{Rowed, rowed_none, rowed_pair}
use Rattle.planar.specs.Cells.{stored}
use Rattle.plain_slots.specs.Rows.{row_with}

abbrev pairs : (ℕ → Complex) → ℕ → List Float
pairs g i = (g i).re ∷ (g i).im ∷ []

-- numbers `from` to before k of a row are f's: where those before `from` were new, all before k are, by f's name or by another
pub record Carried (f : ℕ → Complex) (from k : ℕ) (old row : List Float) : Type 0 where
  pub long : length row ≡ length old
  pub rows : (g : ℕ → Complex) (first : List Float) → ((i : ℕ) → from ≤ i → i < k → f i ≡ g i) → length first ≡ length old
      → Rowed (pairs g) from (2 * from) first old → Rowed (pairs g) k (2 * k) first row

pub carried_none : (f : ℕ → Complex) (from : ℕ) (old : List Float) → Carried f from from old old
carried_none f from old = record { long = refl; rows = λ g first same h r. r }

pub carried_more : {f : ℕ → Complex} {from k : ℕ} {old row next : List Float} → Carried f from k old row → (v : Complex) → next ≡ stored 1 row (2 * k) v → v ≡ f k
    → from ≤ k → 2 * k + 1 < length old → Carried f from (k + 1) old next
carried_more {k = k} r v e is low room =
    record {
      long = ap length e ∙ simp length-set r.long;
      rows = λ g first same h s.
          rw e
          (rowed_pair (r.rows g first (λ i u w. same i u (omega arith)) h s) v.re v.im
          (ap (λ (z : Complex). z.re ∷ z.im ∷ []) (is ∙ same k low (omega arith))) (omega arith) (omega arith));
    }

-- the row after one loop, and after two
module _ (g : ℕ → Complex) (count : ℕ) {f : ℕ → Complex} {old row : List Float} where
  pub carried_all : Carried f 0 count old row → ((i : ℕ) → i < count → f i ≡ g i) → row ≡ row_with count g old
  unfolding row_with
  carried_all r same = (r.rows g old (λ i u w. same i w) refl (rowed_none (pairs g) old)).front.is

  pub carried_both : {h : ℕ → Complex} {middle : ℕ} {half : List Float} → Carried h 0 middle old half → Carried f middle count half row → ((i : ℕ) → i < middle → h i ≡ g i)
      → ((i : ℕ) → middle ≤ i → i < count → f i ≡ g i) → row ≡ row_with count g old
  unfolding row_with
  carried_both r s below above =
      (s.rows g old above (sym r.long) (r.rows g old (λ i u w. below i w) refl (rowed_none (pairs g) old))).front.is
