-- A loop that writes a run of complex numbers from the front: one turn stores one of them, and those behind it are as they were. Assumes nothing.
use mathlib.Core.Path.{◌≡◌, refl, ap, ◌∙◌}
use mathlib.Core.Bool.{Bool, true, false, cond}
use mathlib.Core.Logic.{◌⊎◌, inl, inr}
use mathlib.Core.List.{List}
use Prim.Native.Nat.{ℕ, ◌+◌, ◌-◌, ◌*◌, ◌<◌, ◌≤◌}
use native.Mathlib.Nat.{eq-or-lt_of_le}
use native.Mathlib.Omega.{arith}
use borrow.Author.Tests.{ltb-true, ltb-false, lt-ltb}
use lib.Dec.{ltb}
use lib.Ieee.{Float}
use lib.ListN.{length}
use Rattle.complex.specs.declared.Complex.{Complex}
use Rattle.planar.specs.Cells.{cell, stored, planar, overwritten}
use Rattle.planar.proofs.Cells.{stored_length, stored_same, stored_other, planar_is, planar_at, planar_same}
use Rattle.ps_hybrid_analysis.specs.Stages.{band_at}

-- the first `count` are f's, the others as they were
pub record Filled (apart count : ℕ) (f : ℕ → Complex) (old new : List Float) : Type 0 where
  pub long : length new ≡ length old
  pub done : (i : ℕ) → i < count → i < apart → cell apart new i ≡ f i
  pub rest : (i : ℕ) → count ≤ i → i < apart → cell apart new i ≡ cell apart old i

pub filled_none : (apart : ℕ) (f : ℕ → Complex) (xs : List Float) → Filled apart 0 f xs xs
filled_none apart f xs = record { long = refl; done = λ i u w. absurd (omega arith); rest = λ i u w. refl }

module _ {apart count : ℕ} {f : ℕ → Complex} {old new : List Float} (r : Filled apart count f old new) where
  pub filled_more : (v : Complex) → v ≡ f count → count < apart → apart + apart ≤ length old → Filled apart (count + 1) f old (stored apart new count v)
  filled_more v is room long =
      record {
        long = stored_length apart new count v ∙ r.long;
        done = λ i u w. one i w (eq-or-lt_of_le (at_most i u));
        rest = λ i u w. stored_other apart new count v i room w (λ (e : i ≡ count). omega arith) ∙ r.rest i (omega arith) w;
      }
    where
      at_most : (i : ℕ) → i < count + 1 → i ≤ count
      at_most i u = omega arith

      one : (i : ℕ) → i < apart → (i ≡ count) ⊎ (i < count) → cell apart (stored apart new count v) i ≡ f i
      one i w (inl e) = rw e (stored_same apart new count v room (omega (arith, r.long)) ∙ is)
      one i w (inr l) = stored_other apart new count v i room w (λ (e : i ≡ count). omega arith) ∙ r.done i l w

  -- the run at the end, and when all of it is written
  pub filled_planar : length old ≡ apart + apart → new ≡ planar apart (overwritten count f (cell apart old))
  filled_planar long = planar_is apart new (overwritten count f (cell apart old)) (r.long ∙ long) (λ i u. at i u (ltb i count) refl)
    where
      at : (i : ℕ) → i < apart → (t : Bool) → ltb i count ≡ t → cell apart new i ≡ overwritten count f (cell apart old) i
      at i u true e = rw e (r.done i (ltb-true i count e) u)
      at i u false e = rw e (r.rest i (ltb-false i count e) u)

  pub filled_all : apart ≤ count → length old ≡ apart + apart → new ≡ planar apart f
  filled_all all long = planar_is apart new f (r.long ∙ long) (λ i u. r.done i (omega arith) u)

-- ---- such a loop's invariant, and what it reads as it was
pub record Filling (apart most : ℕ) (f : ℕ → Complex) (old new : List Float) (n : ℕ) : Type 0 where
  pub within : n ≤ most
  pub filled : Filled apart n f old new

-- ---- a band's slots, from the history and then from the input
pub gathered : (history input : List Float) (p count : ℕ) (zeros mid : List Float) {band : List Float} → mid ≡ planar 44 (overwritten 6 (cell 6 history) (cell 44 zeros))
    → band ≡ planar 44 (overwritten count (overwritten 6 (cell 44 mid) (λ j. cell 1 input (128 * (j - 6) + 2 * p))) (cell 44 mid))
    → 6 ≤ count → band ≡ planar 44 (overwritten count (band_at history input p) (cell 44 zeros))
gathered history input p count zeros mid r s most = s ∙ planar_same 44 _ _ (λ j u. at j (ltb j count) refl (ltb j 6) refl (had j u))
  where
    had : (j : ℕ) → j < 44 → cell 44 mid j ≡ overwritten 6 (cell 6 history) (cell 44 zeros) j
    had j u = ap (λ (t : List Float). cell 44 t j) r ∙ planar_at 44 (overwritten 6 (cell 6 history) (cell 44 zeros)) j u

    at : (j : ℕ) (s : Bool) → ltb j count ≡ s → (t : Bool) → ltb j 6 ≡ t → cell 44 mid j ≡ cond t (cell 6 history j) (cell 44 zeros j)
        → cond s (cond t (cell 44 mid j) (cell 1 input (128 * (j - 6) + 2 * p))) (cell 44 mid j)
        ≡ cond s (cond t (cell 6 history j) (cell 1 input (128 * (j - 6) + 2 * p))) (cell 44 zeros j)
    at j true e true f is = is
    at j true e false f is = refl
    at j false e true f is = absurd (omega (arith, ltb-false j count e, ltb-true j 6 f))
    at j false e false f is = is

-- what stands in a list of a band
pub slot_at : (count : ℕ) (x y : ℕ → Complex) {band : List Float} → band ≡ planar 44 (overwritten count x y) → count ≤ 44 → (j : ℕ) → j < count → cell 44 band j ≡ x j
slot_at count x y e most j u =
    ap (λ (t : List Float). cell 44 t j) e ∙ planar_at 44 (overwritten count x y) j (omega arith) ∙ rw (lt-ltb j count u)
