-- The first borders of a list: an envelope among them reads the same border, start and fraction. Assumes nothing.
use mathlib.Core.Path.{◌≡◌, refl, sym, ap, ◌∙◌}
use mathlib.Core.Bool.{Bool, true, false, cond}
use mathlib.Core.List.{List}
use Prim.Native.Nat.{ℕ, zero, suc, ◌+◌, ◌-◌, ◌*◌, ◌/◌, ◌%◌, ◌<◌, ◌≤◌}
use native.Mathlib.Nat.{add-sub_cancel_left}
use native.Mathlib.Numerals.{add-one}
use native.Mathlib.Omega.{arith}
use borrow.Author.Tests.{ltb-true, ltb-false, lt-ltb, le-ltb}
use lib.Dec.{leb, ltb}
use lib.Ieee.{Float, nan}
use lib.ListN.{length, take, get_or}
use lib.Seq.{get_or-take, length-take-le, ext_get_or}
use Rattle.limits.specs.Limits as limits
use Rattle.lists.specs.Part.{part}
use Rattle.lists.specs.Rows.{tabulate}
use Rattle.lists.proofs.Front.{front_long, front_at, front_ahead}
use Rattle.lists.proofs.Parts.{part_at}
use Rattle.lists.proofs.Maps.{Tabulated, tabulate_length, tabulate_at, tabulate_same}
use Rattle.planar.specs.Cells.{overwritten}
use Rattle.planar.specs.Frame.{matrix_runs}
use Rattle.standard.specs.declared.Matrix.{Matrix}
use Rattle.standard.specs.Interpolation.{start, border_at, fraction, filled_by, matrix_by}

pub start_after : (borders : List ℕ) (e : ℕ) → (e ≡ 0 → ⊥) → start borders e ≡ suc (get_or borders (e - 1) 0)
start_after borders zero some = absurd (some refl)
start_after borders (suc e) some = ap (λ (k : ℕ). suc (get_or borders k 0)) (omega arith)

pub start_next : (borders : List ℕ) (e : ℕ) → border_at borders e + 1 ≡ start borders (e + 1)
start_next borders e = rw (add-one (border_at borders e), add-one e)

-- the fractions of envelope e, lent
pub lent_fraction : (fractions : List Float) (e n : ℕ) → n < 32 → get_or (part (32 * e) (32 * e + 32 - 32 * e) fractions) n nan ≡ get_or fractions (32 * e + n) nan
lent_fraction fractions e n u = rw (add-sub_cancel_left (32 * e) 32) (part_at (32 * e) 32 fractions n nan u)

-- ---- the first m borders
module _ (borders : List ℕ) (m : ℕ) where
  pub start_taken : (e : ℕ) → e ≤ m → start (take m borders) e ≡ start borders e
  start_taken zero h = refl
  start_taken (suc e) h = ap suc (get_or-take m borders e 0 h)

  pub fraction_taken : (e n : ℕ) → e < m → fraction (take m borders) e n ≡ fraction borders e n
  unfolding fraction
  fraction_taken e n h = rw (start_taken e (omega arith), get_or-take m borders e 0 h)

  -- what one loop over the places writes is what the envelopes say
  pub fractions_taken : (out : List Float)
      → tabulate (λ i. cond (ltb i (32 * m)) (fraction borders (i / 32) (i % 32)) (get_or out i nan)) limits.fractions
      ≡ tabulate (λ i. cond (ltb (i / 32) m) (fraction (take m borders) (i / 32) (i % 32)) (get_or out i nan)) limits.fractions
  fractions_taken out = tabulate_same _ _ limits.fractions (λ i u. by i (ltb i (32 * m)) refl)
    where
      by : (i : ℕ) (b : Bool) → ltb i (32 * m) ≡ b
          → cond b (fraction borders (i / 32) (i % 32)) (get_or out i nan) ≡ cond (ltb (i / 32) m) (fraction (take m borders) (i / 32) (i % 32)) (get_or out i nan)
      by i true e =
          let less : i / 32 < m = omega (arith, ltb-true i (32 * m) e) in
          rw (lt-ltb (i / 32) m less) (sym (fraction_taken (i / 32) (i % 32) less))
      by i false e = rw (le-ltb (i / 32) m (omega (arith, ltb-false i (32 * m) e)))

  module _ (t : ℕ → ℕ → Float) (h : ℕ → Matrix) where
    filled_taken : (n e : ℕ) → e ≤ m → filled_by (take m borders) t h n e ≡ filled_by borders t h n e
    unfolding filled_by
    filled_taken n zero u = refl
    filled_taken n (suc e) u = rw (start_taken e (omega arith), get_or-take m borders e 0 u, filled_taken n e (omega arith))

    pub matrix_taken : m ≤ length borders → (n : ℕ) → cond (leb (start borders m) n) (h m) (filled_by borders t h n m) ≡ matrix_by (take m borders) t h n
    unfolding matrix_by
    matrix_taken few n =
        let all : length (take m borders) ≡ m = length-take-le m borders few in
        rw (all, start_taken m (omega arith), filled_taken n m (omega arith))

    pub runs_taken : m ≤ length borders → (slots : ℕ) (old : ℕ → Matrix)
        → matrix_runs (overwritten slots (λ n. cond (leb (start borders m) n) (h m) (filled_by borders t h n m)) old) ≡ matrix_runs (overwritten slots (matrix_by (take m borders) t h) old)
    runs_taken few slots old = λ i. matrix_runs (overwritten slots (λ n. matrix_taken few n i) old)

-- ---- a loop that writes the first m places
pub partly : {f : ℕ → Float} {m : ℕ} {d l : List Float} → Tabulated f m d l → m ≤ length d → l ≡ tabulate (λ i. cond (ltb i m) (f i) (get_or d i nan)) (length d)
partly {f} {m} {d} {l} r few =
    ext_get_or nan l (tabulate new (length d)) (same ∙ sym (tabulate_length new (length d)))
    (λ i u. at i (rw same at u) (ltb i m) refl ∙ sym (tabulate_at new (length d) i nan (rw same at u)))
  where
    new : ℕ → Float
    new = λ i. cond (ltb i m) (f i) (get_or d i nan)

    same : length l ≡ length d
    same = front_long r.front few

    at : (i : ℕ) → i < length d → (b : Bool) → ltb i m ≡ b → get_or l i nan ≡ cond b (f i) (get_or d i nan)
    at i u true e = let less = ltb-true i m e in front_at r.front i nan less ∙ tabulate_at f m i nan less
    at i u false e = front_ahead r.front i nan (ltb-false i m e)
