-- The courses after each envelope: they begin with what the bands kept, and each envelope writes the border behind those before it. Assumes nothing.
use mathlib.Core.Path.{◌≡◌, refl, sym, ap, ap₂, ◌∙◌}
use mathlib.Core.Logic.{◌≢◌}
use mathlib.Core.Bool.{Bool, true, false, cond}
use mathlib.Core.List.{List, [], ◌++◌, append-nil}
use Prim.Native.Nat.{ℕ, ◌+◌, ◌*◌, ◌<◌, ◌≤◌}
use native.Mathlib.Nat.{add-zero, mul_comm}
use native.Mathlib.Omega.{arith}
use borrow.Author.Tests.{le-leb, lt-leb, leb-true, leb-false}
use lib.Dec.{leb}
use lib.Ieee.{Float}
use lib.IntN.{ℤ}
use lib.ListN.{length, drop, drop_of_length-le}
use Rattle.calls.specs.Call.{modes_of}
use Rattle.calls.specs.Cues.{cue_at}
use Rattle.cue.specs.declared.Header.{Header}
use Rattle.layout.specs.declared.Layout.{Layout}
use Rattle.layout.specs.Numbers.{bands_of}
use Rattle.limits.specs.Limits as limits
use Rattle.lists.specs.Part.{part, put}
use Rattle.lists.specs.Rows.{rows}
use Rattle.lists.proofs.Parts.{part_length, part_part}
use Rattle.lists.proofs.Rows.{rows_same, rows_length, rows_whole}
use Rattle.mixing_table.specs.Values.{mixing}
use Rattle.planar.specs.Frame.{numbers_of}
use Rattle.ps_data.specs.Indices.{PsIndices}
use Rattle.ps_stereo.specs.Kept.{matrices_with}
use Rattle.ps_stereo_cues.specs.Cues.{cues_at}
use Rattle.ps_stereo_envelope.specs.Envelope as envelope
use Rattle.standard.specs.Mixing.{Kept, matrix_from}
use Rattle.ps_stereo_borders.specs.Borders.{kept_then, courses_then}
use Rattle.ps_stereo_borders.specs.Steps.{copied}
use Rattle.ps_stereo_borders.proofs.Parts.{numbers_kept, border_put}
use Rattle.ps_stereo_borders.proofs.Phases.{then_next, phases_at, phases_part}
use Rattle.ps_stereo_borders.proofs.Runs.{runs_cut, run_at, runs_part, runs_drop, runs_length}

module _ (l : Layout) (h : Header) (indices : PsIndices) (directions : List ℤ) (matrices : List Float) (phases : List ℤ) where
  abbrev bands : ℕ
  bands = bands_of l

  -- band b's numbers at border k
  abbrev numbers : ℕ → ℕ → List Float
  numbers b k = numbers_of (kept_then l h indices directions matrices phases b k).matrix

  -- without envelopes those of the state stay
  pub matrices_first : 8 * bands ≤ length matrices → matrices ≡ matrices_with l (λ b. kept_then l h indices directions matrices phases b 0) matrices
  unfolding matrices_with kept_then
  matrices_first room =
      runs_cut 8 bands matrices
      ∙ ap (λ (p : List Float). p ++ drop (8 * bands) matrices)
      (rows_same (λ b. part (8 * b) 8 matrices) (λ b. numbers b 0) bands (λ b u. sym (numbers_kept (part (8 * b) 8 matrices) (part_length (8 * b) 8 matrices (omega arith)))))

  module _ (lent : List Float) (wide : limits.course * bands ≤ length lent) where
    -- ---- what a course is

    abbrev border_at : ℕ → ℕ → ℕ → List Float
    border_at e b k = cond (leb k e) (numbers b k) (part (limits.course * b + 8 * k) 8 lent)

    abbrev course_at : ℕ → ℕ → List Float
    course_at e b = rows (border_at e b) limits.borders

    abbrev after : ℕ → List Float
    after e = courses_then l h indices directions matrices phases e lent

    after_is : (e : ℕ) → after e ≡ rows (course_at e) bands ++ drop (limits.course * bands) lent
    unfolding courses_then
    after_is e = refl

    border_long : (e b : ℕ) → b < bands → (k : ℕ) → k < limits.borders → length (border_at e b k) ≡ 8
    border_long e b u k v = go (leb k e)
      where
        go : (t : Bool) → length (cond t (numbers b k) (part (limits.course * b + 8 * k) 8 lent)) ≡ 8
        go true = refl
        go false = part_length (limits.course * b + 8 * k) 8 lent (omega arith)

    course_long : (e b : ℕ) → b < bands → length (course_at e b) ≡ limits.course
    course_long e b u = rows_length (border_at e b) 8 limits.borders (border_long e b u)

    pub after_long : (e : ℕ) → length (after e) ≡ length lent
    after_long e = ap length (after_is e) ∙ runs_length (course_at e) limits.course bands (course_long e) lent wide

    after_part : (e b : ℕ) → b < bands → part (limits.course * b) limits.course (after e) ≡ course_at e b
    after_part e b u = ap (part (limits.course * b) limits.course) (after_is e) ∙ runs_part (course_at e) limits.course bands (course_long e) (drop (limits.course * bands) lent) b u

    -- ---- the kept numbers are put in front

    module _ (room : 8 * bands ≤ length matrices) where
      first_course : (b : ℕ) → b < bands → put 0 8 (part (limits.course * b) limits.course lent) (part (8 * b + 0) 8 matrices) ≡ course_at 0 b
      unfolding kept_then
      first_course b u =
          ap₂ (λ (old new : List Float). put 0 8 old new) cut (ap (λ (n : ℕ). part n 8 matrices) (add-zero (8 * b)))
          ∙ border_put (λ k. part (limits.course * b + 8 * k) 8 lent) (border_at 0 b) 0 (part (8 * b) 8 matrices) (omega arith)
          (λ k v. part_length (limits.course * b + 8 * k) 8 lent (omega arith)) eight (sym (numbers_kept (part (8 * b) 8 matrices) eight))
          (λ k v ne. rw (lt-leb k 0 (omega (arith, ne))))
        where
          eight : length (part (8 * b) 8 matrices) ≡ 8
          eight = part_length (8 * b) 8 matrices (omega arith)

          cut : part (limits.course * b) limits.course lent ≡ rows (λ k. part (limits.course * b + 8 * k) 8 lent) limits.borders
          cut =
              sym (rows_whole 8 limits.borders (part (limits.course * b) limits.course lent) (part_length (limits.course * b) limits.course lent (omega arith)))
              ∙ rows_same _ _ limits.borders
              (λ k v. part_part (limits.course * b) limits.course (k * 8) 8 lent (omega arith) ∙ ap (λ (n : ℕ). part (limits.course * b + n) 8 lent) (mul_comm k 8))

      pub courses_first : copied bands matrices 8 0 lent limits.course ≡ after 0
      courses_first = ap (λ (p : List Float). p ++ drop (limits.course * bands) lent) (rows_same _ (course_at 0) bands first_course) ∙ sym (after_is 0)

    -- ---- one envelope more

    same_test : (e k : ℕ) → k ≢ e + 1 → leb k e ≡ leb k (e + 1)
    same_test e k ne = go (leb k e) refl
      where
        go : (t : Bool) → leb k e ≡ t → t ≡ leb k (e + 1)
        go true t = sym (le-leb k (e + 1) (omega (arith, leb-true k e t)))
        go false t = let past : e < k = leb-false k e t in sym (lt-leb k (e + 1) (omega (arith, ne)))

    module _ (e : ℕ) (early : e < limits.envelopes) where
      -- the numbers that an envelope writes
      abbrev new : ℕ → List Float
      new b = numbers_of (envelope.matrix_at mixing directions (modes_of h) (envelope.cue_of (cues_at l h.config indices e) b) (envelope.phases_of (phases_at l h indices directions matrices phases e) b))

      next_numbers : (b : ℕ) → b < bands → new b ≡ numbers b (e + 1)
      unfolding cues_at cue_at matrix_from
      next_numbers b u =
          ap numbers_of
          (ap (envelope.matrix_at mixing directions (modes_of h) (cue_at l h.config indices e b)) (phases_part l h indices directions matrices phases e b u)
          ∙ ap (λ (k : Kept). k.matrix) (sym (then_next l h indices directions matrices phases b e)))

      next_course : (b : ℕ) → b < bands → put (8 * (e + 1)) 8 (part (limits.course * b) limits.course (after e)) (new b) ≡ course_at (e + 1) b
      next_course b u =
          ap (λ (t : List Float). put (8 * (e + 1)) 8 t (new b)) (after_part e b u)
          ∙ border_put (border_at e b) (border_at (e + 1) b) (e + 1) (new b) (omega arith) (border_long e b u) refl (rw (le-leb (e + 1) (e + 1) (omega arith)) (next_numbers b u))
          (λ k v ne. rw (same_test e k ne))

      pub courses_more : envelope.rows_then mixing directions l (modes_of h) (cues_at l h.config indices e) (phases_at l h indices directions matrices phases e) e (after e) ≡ after (e + 1)
      unfolding envelope.rows_then
      courses_more =
          ap₂ (λ (p q : List Float). p ++ q) (rows_same _ (course_at (e + 1)) bands next_course)
          (ap (drop (limits.course * bands)) (after_is e) ∙ runs_drop (course_at e) limits.course bands (course_long e) (drop (limits.course * bands) lent))
          ∙ sym (after_is (e + 1))

    -- ---- the last border's numbers are kept

    pub matrices_kept : (e : ℕ) → e ≤ limits.envelopes → 8 * bands ≤ length matrices
        → copied bands (after e) limits.course (8 * e) matrices 8 ≡ matrices_with l (λ b. kept_then l h indices directions matrices phases b e) matrices
    unfolding matrices_with
    matrices_kept e early room = ap (λ (p : List Float). p ++ drop (8 * bands) matrices) (rows_same _ (λ b. numbers b e) bands band)
      where
        last : (b : ℕ) → b < bands → part (limits.course * b + 8 * e) 8 (after e) ≡ numbers b e
        last b u =
            sym (part_part (limits.course * b) limits.course (8 * e) 8 (after e) (omega arith))
            ∙ ap (part (8 * e) 8) (after_part e b u)
            ∙ run_at (border_at e b) 8 limits.borders (border_long e b u) e (omega arith)
            ∙ rw (le-leb e e (omega arith))

        band : (b : ℕ) → b < bands → put 0 8 (part (8 * b) 8 matrices) (part (limits.course * b + 8 * e) 8 (after e)) ≡ numbers b e
        band b u =
            let none : drop 8 (part (8 * b) 8 matrices) ≡ [] = drop_of_length-le (part (8 * b) 8 matrices) {i = 8} (omega (arith, part_length (8 * b) 8 matrices (omega arith))) in
            rw (none, append-nil) (last b u)
