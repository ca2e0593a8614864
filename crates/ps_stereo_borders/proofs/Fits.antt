-- Whether the lists have room for the layout's bands: nothing changes where they have none, and where they have, the envelopes go on from what was kept.
-- Assumes nothing.
use mathlib.Core.Path.{◌≡◌, ◌∙◌}
use mathlib.Core.Bool.{true, false}
use mathlib.Core.List.{List}
use Prim.Native.Nat.{ℕ, ◌*◌, ◌<◌, ◌≤◌, min}
use native.Mathlib.Omega.{arith}
use borrow.Author.Tests.{le-leb, lt-leb}
use lib.Ieee.{Float}
use lib.IntN.{ℤ}
use lib.ListN.{length}
use Rattle.cue.specs.declared.Header.{Header}
use Rattle.layout.specs.declared.Layout.{Layout}
use Rattle.layout.specs.Numbers.{bands_of}
use Rattle.limits.specs.Limits as limits
use Rattle.ps_data.specs.Indices.{PsIndices}
use Rattle.ps_stereo.specs.Kept.{matrices_with, phases_with}
use Rattle.ps_stereo_borders.specs.Borders.{kept_then, courses_then, fits, rows_after, matrices_after, phases_after}
use Rattle.ps_stereo_borders.specs.Steps.{copied, Advanced}
use Rattle.ps_stereo_borders.proofs.Courses.{matrices_first, courses_first, matrices_kept}
use Rattle.ps_stereo_borders.proofs.Phases.{phases_first}

module _ (l : Layout) (h : Header) (indices : PsIndices) (directions : List ℤ) (matrices : List Float) (phases : List ℤ) (rows : List Float) where
  -- these are the lists after the frame
  abbrev pub After : List Float → List ℤ → List Float → Type 0
  After m p r =
      (m ≡ matrices_after l h indices directions matrices phases rows)
      × ((p ≡ phases_after l h indices directions matrices phases rows) × (r ≡ rows_after l h indices directions matrices phases rows))

  unfit : fits l h indices directions matrices phases rows ≡ false → After matrices phases rows
  unfolding matrices_after phases_after rows_after
  unfit t = (rw t, (rw t, rw t))

  pub no_matrices : length matrices < 8 * bands_of l → After matrices phases rows
  no_matrices u = unfit (rw (lt-leb (8 * bands_of l) (length matrices) u))

  module _ (m : 8 * bands_of l ≤ length matrices) where
    pub no_phases : length phases < 4 * bands_of l → After matrices phases rows
    no_phases u = unfit (rw (le-leb (8 * bands_of l) (length matrices) m, lt-leb (4 * bands_of l) (length phases) u))

    module _ (p : 4 * bands_of l ≤ length phases) where
      pub no_rows : length rows < limits.course * bands_of l → After matrices phases rows
      no_rows u = unfit (rw (le-leb (8 * bands_of l) (length matrices) m, le-leb (4 * bands_of l) (length phases) p, lt-leb (limits.course * bands_of l) (length rows) u))

      module _ (r : limits.course * bands_of l ≤ length rows) where
        -- after n envelopes
        after : (n : ℕ) → n ≡ min h.envelopes limits.envelopes → {matrices' : List Float} {phases' : List ℤ} {rows' : List Float}
            → matrices' ≡ matrices_with l (λ b. kept_then l h indices directions matrices phases b n) matrices
            → phases' ≡ phases_with l (λ b. kept_then l h indices directions matrices phases b n) phases
            → rows' ≡ courses_then l h indices directions matrices phases n rows → After matrices' phases' rows'
        unfolding matrices_after phases_after rows_after
        after n is em ep er = (em ∙ rw (fit, is), (ep ∙ rw (fit, is), er ∙ rw (fit, is)))
          where
            fit : fits l h indices directions matrices phases rows ≡ true
            fit = rw (le-leb (8 * bands_of l) (length matrices) m, le-leb (4 * bands_of l) (length phases) p, le-leb (limits.course * bands_of l) (length rows) r)

        -- the kept coefficients are put in front
        module _ {bands : ℕ} {first : List Float} (are : bands ≡ bands_of l) (start : first ≡ copied bands matrices 8 0 rows limits.course) where
          courses : first ≡ courses_then l h indices directions matrices phases 0 rows
          courses = start ∙ rw are (courses_first l h indices directions matrices phases rows r m)

          pub held : 0 ≡ min h.envelopes limits.envelopes → After matrices phases first
          held none = after 0 none (matrices_first l h indices directions matrices phases m) (phases_first l h indices directions matrices phases p) courses

          pub advanced : {n : ℕ} {matrices' : List Float} {phases' : List ℤ} {rows' : List Float} → Advanced l h indices directions phases first n phases' rows'
              → n ≡ min h.envelopes limits.envelopes → matrices' ≡ copied bands rows' limits.course (8 * n) matrices 8 → After matrices' phases' rows'
          advanced {n} t is kept =
              let last = t.courses matrices rows r courses in
              after n is
              (kept ∙ rw (are, last) (matrices_kept l h indices directions matrices phases rows r n (omega (arith, is)) m))
              (t.moved matrices) last
