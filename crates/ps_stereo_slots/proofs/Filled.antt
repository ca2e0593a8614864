-- One region more, and the slots that hold: what a run of regions leaves is the standard's filling, slot by slot. Assumes nothing.
use mathlib.Core.Path.{◌≡◌, refl, ◌∙◌}
use mathlib.Core.Logic.{◌⊎◌, inl, inr, ◌≢◌}
use mathlib.Core.Bool.{Bool, true, false, cond, ◌&&◌}
use mathlib.Core.List.{List}
use Prim.Native.Nat.{ℕ, suc, ◌+◌, ◌<◌, ◌≤◌, min}
use native.Mathlib.Numerals.{add-one}
use native.Mathlib.Omega.{arith}
use borrow.Author.Tests.{eqb-true, eqb-false, ltb-true, ltb-false, leb-true, leb-false}
use lib.Dec.{eqb, leb, ltb}
use lib.Ieee.{Float, nan}
use lib.ListN.{length, get_or}
use Rattle.planar.specs.Cells.{overwritten}
use Rattle.planar.specs.Frame.{matrix_at, matrix_runs}
use Rattle.standard.specs.declared.Matrix.{Matrix}
use Rattle.standard.specs.Interpolation.{start, border_at, between, filled_by}
use Rattle.ps_stereo_slots.specs.Regions.{stored_matrix, Written}
use Rattle.ps_stereo_slots.proofs.Runs.{slot_length, slot_same, slot_other, runs_are}
use Rattle.ps_stereo_slots.proofs.Covered.{filled_over, covered}

-- ---- the loop over a region's slots
pub written_none : (first : ℕ) (new : ℕ → Matrix) (old : List Float) → length old ≡ 256 → Written first first new old old
written_none first new old long = record { long = long; inside = λ n a b. absurd (omega arith); before = λ n u a. refl; behind = λ n u a. refl }

module _ {first n : ℕ} {new : ℕ → Matrix} {old runs : List Float} (r : Written first n new old runs) where
  pub written_more : (h : Matrix) → h ≡ new n → first ≤ n → n < 32 → Written first (n + 1) new old (stored_matrix runs n h)
  written_more h is after room =
      record {
        long = slot_length runs n h r.long room;
        inside = λ j a b. at j a b (eqb j n) refl;
        before = λ j u a. other j u (λ (e : j ≡ n). omega arith) ∙ r.before j u a;
        behind = λ j u a. other j u (λ (e : j ≡ n). omega arith) ∙ r.behind j u (omega arith);
      }
    where
      other : (j : ℕ) → j < 32 → j ≢ n → matrix_at (stored_matrix runs n h) j ≡ matrix_at runs j
      other j u ne = slot_other runs n h r.long room j u ne

      at : (j : ℕ) → first ≤ j → j < n + 1 → (t : Bool) → eqb j n ≡ t → matrix_at (stored_matrix runs n h) j ≡ new j
      at j a b true e = let same : j ≡ n = eqb-true j n e in rw same (slot_same runs n h r.long room ∙ is)
      at j a b false e = let ne = eqb-false j n e in other j (omega arith) ne ∙ r.inside j a (omega arith)

  -- at the end n has passed `end`, by nothing unless the region is empty
  pub written_all : (end : ℕ) → end ≤ n → (n ≤ first) ⊎ (n ≤ end) → Written first end new old runs
  written_all end past most = record { long = r.long; inside = λ j a b. r.inside j a (omega arith); before = r.before; behind = λ j u a. rest j u a most }
    where
      rest : (j : ℕ) → j < 32 → end ≤ j → (n ≤ first) ⊎ (n ≤ end) → matrix_at runs j ≡ matrix_at old j
      rest j u a (inr m) = r.behind j u (omega arith)
      rest j u a (inl m) = by (ltb j n) refl
        where
          by : (t : Bool) → ltb j n ≡ t → matrix_at runs j ≡ matrix_at old j
          by true e = r.before j u (omega (arith, ltb-true j n e))
          by false e = r.behind j u (ltb-false j n e)

-- ---- the loop over envelopes
module _ (borders : List ℕ) (t : ℕ → ℕ → Float) (h : ℕ → Matrix) (slots : ℕ) (old : List Float) where
  pub record Filled (e : ℕ) (runs : List Float) : Type 0 where
    pub long : length runs ≡ 256
    pub slot : (n : ℕ) → n < 32 → matrix_at runs n ≡ overwritten slots (λ j. filled_over borders t h (matrix_at old) j e) (matrix_at old) n

  pub filled_none : length old ≡ 256 → Filled 0 old
  unfolding filled_over
  filled_none long = record { long = long; slot = λ n u. same n (ltb n slots) }
    where
      same : (n : ℕ) (b : Bool) → matrix_at old n ≡ cond b (matrix_at old n) (matrix_at old n)
      same n true = refl
      same n false = refl

  module _ {e : ℕ} {runs : List Float} (next : List Float) (r : Filled e runs) where
    -- a slot that the next step leaves
    left : (n : ℕ) → n < 32 → (a : Bool) → ltb n slots ≡ a → matrix_at next n ≡ matrix_at runs n → matrix_at next n ≡ cond a (filled_over borders t h (matrix_at old) n e) (matrix_at old n)
    left n u a p same = same ∙ (rw p at (r.slot n u))

    pub filled_more : (new : ℕ → Matrix) (end : ℕ) → ((n : ℕ) → n < 32 → new n ≡ between (h e) (h (suc e)) (t e n)) → end ≡ min (suc (border_at borders e)) slots
        → Written (start borders e) end new runs next → Filled (suc e) next
    unfolding filled_over
    filled_more new end is last w =
        record { long = w.long; slot = λ n u. by n u (ltb n slots) refl (leb (start borders e) n) refl (leb n (border_at borders e)) refl }
      where
        by : (n : ℕ) → n < 32 → (a : Bool) → ltb n slots ≡ a → (b : Bool) → leb (start borders e) n ≡ b → (d : Bool) → leb n (border_at borders e) ≡ d
            → matrix_at next n ≡ cond a (cond (b && d) (between (h e) (h (suc e)) (t e n)) (filled_over borders t h (matrix_at old) n e)) (matrix_at old n)
        by n u false p b q d s = left n u false p (w.behind n u (omega (arith, ltb-false n slots p)))
        by n u true p true q true s =
            w.inside n (leb-true (start borders e) n q) (omega (arith, ltb-true n slots p, leb-true n (border_at borders e) s)) ∙ is n u
        by n u true p true q false s = left n u true p (w.behind n u (omega (arith, leb-false n (border_at borders e) s)))
        by n u true p false q d s = left n u true p (w.before n u (leb-false (start borders e) n q))

    -- a region as it is lent: its coefficients, its slots and its fractions are the envelope's
    pub region_filled : (from to : Matrix) (slice : List Float) (first end : ℕ) → from ≡ h e → to ≡ h (e + 1) → first ≡ start borders e → end ≡ min (border_at borders e + 1) slots
        → ((n : ℕ) → n < 32 → get_or slice n nan ≡ t e n) → Written first end (λ n. between from to (get_or slice n nan)) runs next → Filled (e + 1) next
    region_filled from to slice first end p q place last s w =
        let q' : to ≡ h (suc e) = rw (add-one e) at q in
        let last' : end ≡ min (suc (border_at borders e)) slots = rw (add-one (border_at borders e)) at last in
        rw (add-one e) (filled_more (λ n. between from to (get_or slice n nan)) end (λ n u. λ i. between (p i) (q' i) (s n u i)) last' (rw place at w))

    -- the slots after the last border hold
    pub filled_held : (new : Matrix) (first : ℕ) → new ≡ h e → first ≡ start borders e → Written first slots (λ n. new) runs next
        → next ≡ matrix_runs (overwritten slots (λ n. cond (leb (start borders e) n) (h e) (filled_by borders t h n e)) (matrix_at old))
    filled_held new first is place held =
        runs_are next (overwritten slots (λ n. cond (leb (start borders e) n) (h e) (filled_by borders t h n e)) (matrix_at old)) held.long
        (λ n u. by n u (ltb n slots) refl (leb (start borders e) n) refl)
      where
        w : Written (start borders e) slots (λ n. new) runs next
        w = rw place at held

        by : (n : ℕ) → n < 32 → (a : Bool) → ltb n slots ≡ a → (b : Bool) → leb (start borders e) n ≡ b
            → matrix_at next n ≡ cond a (cond b (h e) (filled_by borders t h n e)) (matrix_at old n)
        by n u false p b q = left n u false p (w.behind n u (ltb-false n slots p))
        by n u true p true q = w.inside n (leb-true (start borders e) n q) (ltb-true n slots p) ∙ is
        by n u true p false q =
            let earlier : n < start borders e = leb-false (start borders e) n q in
            left n u true p (w.before n u earlier) ∙ covered borders t h (matrix_at old) n e earlier
