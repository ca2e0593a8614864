-- §8.6.4.6.4: a band's coefficients in each slot of a frame, from those at the borders. The rows: for each band its
-- course, eight numbers at each border, first the kept coefficients, then those of each envelope. Assumes nothing.
use Rattle.std.specs.Prelude.{ℕ, ◌+◌, ◌*◌, ◌/◌, ◌%◌, min, cond, ◌&&◌, List, leb, ltb, Float, length, take, get_or}
use Rattle.std.specs.Float.{nan}
use Rattle.limits.specs.Limits as limits
use Rattle.lists.specs.Part.{part}
use Rattle.lists.specs.Rows.{tabulate}
use Rattle.planar.specs.Cells.{overwritten}
use Rattle.planar.specs.Frame.{matrix_at, matrix_runs, kept_matrix}
use Rattle.standard.specs.declared.Matrix.{Matrix}
use Rattle.standard.specs.Interpolation.{fraction, matrix_by}

-- the borders of a frame, cut to the limit
abbrev pub borders_of : List ℕ → ℕ → List ℕ
borders_of borders count = take (min count limits.envelopes) borders

-- t of envelope e and slot n stands at 32 e + n; the places of envelopes that the frame lacks stay
unfoldable pub fractions_after : List ℕ → ℕ → List Float → List Float
fractions_after borders count out =
    tabulate (λ i. cond (ltb (i / 32) (min count limits.envelopes)) (fraction (borders_of borders count) (i / 32) (i % 32)) (get_or out i nan)) limits.fractions

abbrev pub fraction_at : List Float → ℕ → ℕ → Float
fraction_at fractions e n = get_or fractions (32 * e + n) nan

-- a band's coefficients at the border before envelope e
abbrev pub border_matrix : List Float → ℕ → ℕ → Matrix
border_matrix rows band e = kept_matrix (part (limits.course * band + 8 * e) 8 rows)

-- a band's coefficients slot by slot, four runs of 32, of which the frame's slots are written
unfoldable pub runs_after : List Float → List Float → List ℕ → ℕ → ℕ → ℕ → List Float → List Float
runs_after rows fractions borders count band slots out =
    cond (ltb band 34 && leb (limits.course * band + limits.course) (length rows))
    (matrix_runs (overwritten slots (λ n. matrix_by (borders_of borders count) (fraction_at fractions) (border_matrix rows band) n) (matrix_at out)))
    out
