-- The coefficients that stand in the courses of the bands are those that each band keeps, so those of each slot agree with the definitions'.
-- Assumes nothing.
use mathlib.Core.Path.{◌≡◌, refl, sym, ap, ◌∙◌}
use mathlib.Core.Bool.{Bool, true, false, cond}
use mathlib.Core.List.{List}
use Prim.Native.Nat.{ℕ, ◌+◌, ◌*◌, ◌<◌, ◌≤◌, min}
use native.Mathlib.Omega.{arith}
use borrow.Author.Tests.{le-leb}
use lib.Dec.{leb}
use lib.Ieee.{Float}
use lib.IntN.{ℤ}
use lib.ListN.{length, take, drop, length-append}
use Rattle.limits.specs.Limits as limits
use Rattle.cue.specs.declared.Header.{Header}
use Rattle.layout.specs.declared.Layout.{Layout}
use Rattle.layout.specs.Numbers.{bands_of}
use Rattle.layout.proofs.Bounds.{bounds}
use Rattle.lists.specs.Padded.{padded}
use Rattle.lists.specs.Part.{part}
use Rattle.lists.specs.Rows.{rows}
use Rattle.lists.proofs.Padded.{padded_take}
use Rattle.lists.proofs.Parts.{part_length, part_part, part_front}
use Rattle.lists.proofs.Rows.{rows_length, rows_part}
use Rattle.planar.specs.Frame.{kept_matrix, numbers_of}
use Rattle.ps_data.specs.Indices.{PsIndices}
use Rattle.ps_stereo_borders.specs.Borders.{kept_then, courses_then, fits, rows_after, matrices_after, phases_after}
use Rattle.ps_stereo.specs.Kept.{matrices_with, phases_with}
use Rattle.ps_stereo_slots.specs.Slots.{borders_of, border_matrix}
use Rattle.standard.specs.declared.Matrix.{Matrix}
use Rattle.standard.specs.Interpolation.{fraction, matrix_in}
use Rattle.standard.proofs.Frames.{matrix_same}

kept_again : (h : Matrix) → kept_matrix (numbers_of h) ≡ h
kept_again h = refl

-- the borders that are handed over in four places
pub borders_held : (borders : List ℕ) (envelopes : ℕ) → length borders ≡ min envelopes limits.envelopes → borders_of (padded limits.envelopes 0 borders) envelopes ≡ borders
borders_held borders envelopes long = ap (λ (n : ℕ). take n (padded limits.envelopes 0 borders)) (sym long) ∙ padded_take 0 limits.envelopes borders (omega arith)

module _ (l : Layout) (h : Header) (indices : PsIndices) (directions : List ℤ) (matrices : List Float) (phases : List ℤ) (old : List Float)
    (held : length matrices ≡ 272) (turned : length phases ≡ 136) (blank : length old ≡ limits.matrices) where
  abbrev count : ℕ
  count = min h.envelopes limits.envelopes

  abbrev kept : ℕ → ℕ → Matrix
  kept b e = (kept_then l h indices directions matrices phases b e).matrix

  abbrev courses : List Float
  courses = rows_after l h indices directions matrices phases old

  room : fits l h indices directions matrices phases old ≡ true
  room =
      let b = bounds l in
      rw (le-leb (8 * bands_of l) (length matrices) (omega arith), le-leb (4 * bands_of l) (length phases) (omega arith), le-leb (limits.course * bands_of l) (length old) (omega arith))

  pub matrices_then : matrices_after l h indices directions matrices phases old ≡ matrices_with l (λ b. kept_then l h indices directions matrices phases b count) matrices
  unfolding matrices_after
  matrices_then = rw room

  pub phases_then : phases_after l h indices directions matrices phases old ≡ phases_with l (λ b. kept_then l h indices directions matrices phases b count) phases
  unfolding phases_after
  phases_then = rw room

  -- eight numbers for each border, in a course for each band
  abbrev numbers_at : ℕ → ℕ → List Float
  numbers_at b e = cond (leb e count) (numbers_of (kept b e)) (part (limits.course * b + 8 * e) 8 old)

  abbrev course_of : ℕ → List Float
  course_of b = rows (numbers_at b) limits.borders

  numbers_length : (b e : ℕ) → b < bands_of l → e < limits.borders → length (numbers_at b e) ≡ 8
  numbers_length b e u w = go (leb e count)
    where
      go : (t : Bool) → length (cond t (numbers_of (kept b e)) (part (limits.course * b + 8 * e) 8 old)) ≡ 8
      go true = refl
      go false = part_length (limits.course * b + 8 * e) 8 old (omega (arith, (bounds l).bands))

  course_length : (b : ℕ) → b < bands_of l → length (course_of b) ≡ limits.course
  course_length b u = rows_length (numbers_at b) 8 limits.borders (λ e w. numbers_length b e u w)

  courses_length : length (rows course_of (bands_of l)) ≡ bands_of l * limits.course
  courses_length = rows_length course_of limits.course (bands_of l) course_length

  pub rows_long : limits.course * bands_of l ≤ length courses
  unfolding rows_after courses_then
  rows_long = rw room (simp length-append (omega (arith, courses_length)))

  numbers_at_lem : (b e : ℕ) → b < bands_of l → e ≤ count → part (limits.course * b + 8 * e) 8 courses ≡ numbers_of (kept b e)
  unfolding rows_after courses_then
  numbers_at_lem b e u w =
      let whole = rows course_of (bands_of l) in
      let band : limits.course * b ≡ b * limits.course = omega arith in
      let border : 8 * e ≡ e * 8 = omega arith in
      rw room
      (part_front (limits.course * b + 8 * e) 8 whole (drop (limits.course * bands_of l) old) (omega (arith, courses_length))
      ∙ sym (part_part (limits.course * b) limits.course (8 * e) 8 whole (omega arith))
      ∙ ap (λ (a : ℕ). part (8 * e) 8 (part a limits.course whole)) band
      ∙ ap (part (8 * e) 8) (rows_part course_of limits.course (bands_of l) course_length b u)
      ∙ ap (λ (a : ℕ). part a 8 (course_of b)) border
      ∙ rows_part (numbers_at b) 8 limits.borders (λ i v. numbers_length b i u v) e (omega arith)
      ∙ ap (λ (t : Bool). cond t (numbers_of (kept b e)) (part (limits.course * b + 8 * e) 8 old)) (le-leb e count w))

  border_same : (b e : ℕ) → b < bands_of l → e ≤ count → border_matrix courses b e ≡ kept b e
  border_same b e u w = ap kept_matrix (numbers_at_lem b e u w) ∙ kept_again (kept b e)

  pub matrix_then_lem : (borders : List ℕ) (b n : ℕ) → length borders ≡ count → b < bands_of l
      → matrix_in (borders_of (padded limits.envelopes 0 borders) h.envelopes) (border_matrix courses b) n ≡ matrix_in borders (kept b) n
  matrix_then_lem borders b n few u =
      ap (λ (places : List ℕ). matrix_in places (border_matrix courses b) n) (borders_held borders h.envelopes few)
      ∙ matrix_same borders (fraction borders) (border_matrix courses b) (kept b) n (λ e w. border_same b e u (omega arith))
