-- The fractions of a frame, made once, are those of every envelope and slot, so that a band's coefficients are the standard's. Assumes nothing.
use mathlib.Core.Path.{◌≡◌, refl, ◌∙◌}
use mathlib.Core.Bool.{cond}
use mathlib.Core.List.{List}
use Prim.Native.Nat.{ℕ, zero, suc, ◌+◌, ◌*◌, ◌/◌, ◌%◌, ◌<◌, ◌≤◌, min}
use native.Mathlib.Omega.{arith}
use borrow.Author.Tests.{lt-ltb, le-leb}
use lib.Dec.{ltb}
use lib.Ieee.{Float, nan}
use lib.ListN.{length, get_or, length-take}
use Rattle.limits.specs.Limits as limits
use Rattle.lists.proofs.Maps.{tabulate_at}
use Rattle.planar.specs.Cells.{overwritten}
use Rattle.planar.specs.Frame.{matrix_at}
use Rattle.standard.specs.declared.Matrix.{Matrix}
use Rattle.standard.specs.Interpolation.{fraction, filled_by, matrix_by, matrix_in}
use Rattle.ps_stereo_slots.specs.Slots.{borders_of, fractions_after, fraction_at, border_matrix, runs_after}
use Rattle.ps_stereo_slots.specs.Coefficients.{Fractions, Coefficients}
use Rattle.ps_stereo_slots.proofs.Reading.{matrix_read}

pub fractions_made : (borders : List ℕ) (count : ℕ) (out : List Float) → Fractions borders count (fractions_after borders count out)
unfolding fractions_after
fractions_made borders count out = record { at = read }
  where
    read : (e n : ℕ) → e < min count limits.envelopes → n < 32 → fraction_at (fractions_after borders count out) e n ≡ fraction (borders_of borders count) e n
    read e n h u =
        let envelope : (32 * e + n) / 32 ≡ e = omega arith in
        let slot : (32 * e + n) % 32 ≡ n = omega arith in
        tabulate_at (λ i. cond (ltb (i / 32) (min count limits.envelopes)) (fraction (borders_of borders count) (i / 32) (i % 32)) (get_or out i nan)) limits.fractions (32 * e + n) nan (omega arith)
        ∙ rw (envelope, slot, lt-ltb e (min count limits.envelopes) h)

-- only fractions of the frame's own envelopes are read
filled_by_lem : (borders : List ℕ) (t u : ℕ → ℕ → Float) (h : ℕ → Matrix) (n j : ℕ) → ((e : ℕ) → e < j → t e n ≡ u e n) → filled_by borders t h n j ≡ filled_by borders u h n j
unfolding filled_by
filled_by_lem borders t u h n zero same = refl
filled_by_lem borders t u h n (suc e) same = rw (same e (omega arith), filled_by_lem borders t u h n e (λ i v. same i (omega arith)))

matrix_by_lem : (borders : List ℕ) (t u : ℕ → ℕ → Float) (h : ℕ → Matrix) (n : ℕ) → ((e : ℕ) → e < length borders → t e n ≡ u e n) → matrix_by borders t h n ≡ matrix_by borders u h n
unfolding matrix_by
matrix_by_lem borders t u h n same = rw (filled_by_lem borders t u h n (length borders) same)

module _ {borders : List ℕ} {count : ℕ} {fractions : List Float} (f : Fractions borders count fractions) where
  pub matrix_standard : (h : ℕ → Matrix) (n : ℕ) → n < 32 → matrix_by (borders_of borders count) (fraction_at fractions) h n ≡ matrix_in (borders_of borders count) h n
  matrix_standard h n u =
      matrix_by_lem (borders_of borders count) (fraction_at fractions) (fraction (borders_of borders count)) h n
      (λ e v. f.at e n (omega (arith, v, length-take (min count limits.envelopes) borders)) u)

-- the coefficients of a band, once they are made
pub coefficients_made : (rows fractions : List Float) (borders : List ℕ) (count slots band : ℕ) (old : List Float) → slots ≤ 32
    → Coefficients rows fractions borders count slots band (runs_after rows fractions borders count band slots old)
unfolding runs_after
coefficients_made rows fractions borders count slots band old few =
    record {
      slot = λ there room n h.
          rw (lt-ltb band 34 there, le-leb (limits.course * band + limits.course) (length rows) room)
          (matrix_read (overwritten slots (λ m. matrix_by (borders_of borders count) (fraction_at fractions) (border_matrix rows band) m) (matrix_at old)) n (omega arith)
          ∙ rw (lt-ltb n slots h));
    }
