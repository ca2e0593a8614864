-- Eight numbers and the coefficients that they hold; a course of which one border is written. Assumes nothing.
use mathlib.Core.Path.{◌≡◌, refl, sym, ap, ◌∙◌}
use mathlib.Core.Logic.{◌≢◌}
use mathlib.Core.Bool.{Bool, true, false}
use mathlib.Core.List.{List}
use Prim.Native.Nat.{ℕ, ◌+◌, ◌*◌, ◌<◌, ◌≤◌}
use native.Mathlib.Nat.{add-zero, mul_comm}
use native.Mathlib.Omega.{arith}
use borrow.Author.Tests.{eqb-true, eqb-false}
use lib.Dec.{eqb}
use lib.Ieee.{Float, nan}
use lib.IntN.{ℤ, pos}
use lib.ListN.{length, get_or, length-append, length-take, length-drop}
use Rattle.limits.specs.Limits as limits
use Rattle.lists.specs.Part.{part, put}
use Rattle.lists.specs.Rows.{rows, tabulate}
use Rattle.lists.proofs.Maps.{copied}
use Rattle.lists.proofs.Parts.{part_length, part_at, part_put}
use Rattle.lists.proofs.Rows.{rows_same, rows_length, rows_part, rows_whole, row_apart}
use Rattle.planar.specs.Frame.{kept_matrix, numbers_of, ipd_of, opd_of, phase_numbers}
use Rattle.ps_stereo_envelope.proofs.Matrices.{four_kept}

-- eight numbers hold the coefficients that they are the numbers of
pub numbers_kept : (xs : List Float) → length xs ≡ 8 → numbers_of (kept_matrix xs) ≡ xs
unfolding rows
numbers_kept xs long =
    let all : numbers_of (kept_matrix xs) ≡ tabulate (λ i. get_or xs i nan) 8 = refl in
    all ∙ ap (tabulate (λ i. get_or xs i nan)) (sym long) ∙ copied xs nan

-- a band's four phase indices are those read of it
pub four_of : (b : ℕ) (phases : List ℤ) → 4 * b + 4 ≤ length phases → part (4 * b) 4 phases ≡ phase_numbers (ipd_of phases b) (opd_of phases b)
four_of b phases room =
    let at : (i : ℕ) → i < 4 → get_or (part (4 * b) 4 phases) i (pos 0) ≡ get_or phases (4 * b + i) (pos 0) = λ i u. part_at (4 * b) 4 phases i (pos 0) u in
    four_kept (part (4 * b) 4 phases) (part_length (4 * b) 4 phases room) ∙ rw (at 0 (omega arith), at 1 (omega arith), at 2 (omega arith), at 3 (omega arith), add-zero (4 * b))

-- border j of a course is written
module _ (f g : ℕ → List Float) (j : ℕ) (new : List Float) (inside : j < limits.borders) (each : (k : ℕ) → k < limits.borders → length (f k) ≡ 8) (eight : length new ≡ 8) where
  pub border_put : new ≡ g j → ((k : ℕ) → k < limits.borders → k ≢ j → f k ≡ g k) → put (8 * j) 8 (rows f limits.borders) new ≡ rows g limits.borders
  border_put here other =
      sym (rows_whole 8 limits.borders (put (8 * j) 8 (rows f limits.borders) new) put_long)
      ∙ rows_same (λ k. part (k * 8) 8 (put (8 * j) 8 (rows f limits.borders) new)) g limits.borders (λ k u. border k u (eqb k j) refl)
    where
      long : length (rows f limits.borders) ≡ limits.course
      long = rows_length f 8 limits.borders each

      put_long : length (put (8 * j) 8 (rows f limits.borders) new) ≡ limits.borders * 8
      put_long = simp (length-append, length-take, length-drop) (omega (arith, long))

      border : (k : ℕ) → k < limits.borders → (t : Bool) → eqb k j ≡ t → part (k * 8) 8 (put (8 * j) 8 (rows f limits.borders) new) ≡ g k
      border k u true e =
          let same : k ≡ j = eqb-true k j e in
          rw (same, mul_comm j 8) (part_put (8 * j) 8 (rows f limits.borders) new (omega (arith, long)) eight ∙ here)
      border k u false e =
          let ne : k ≢ j = eqb-false k j e in
          rw (mul_comm 8 j) (row_apart 8 k j (rows f limits.borders) new (omega (arith, long)) eight ne ∙ rows_part f 8 limits.borders each k u ∙ other k u ne)
