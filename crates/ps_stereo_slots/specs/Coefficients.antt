-- What those who lend the fractions of a frame and read a band's coefficients ask and answer. Assumes nothing.
use Rattle.std.specs.Prelude.{ℕ, ◌+◌, ◌*◌, ◌<◌, ◌≤◌, min, List, ◌≡◌, Float, length}
use Rattle.limits.specs.Limits as limits
use Rattle.planar.specs.Frame.{matrix_at}
use Rattle.standard.specs.Interpolation.{fraction, matrix_by}
use Rattle.ps_stereo_slots.specs.Slots.{borders_of, fraction_at, border_matrix}

-- the fractions of the frame's envelopes
pub record Fractions (borders : List ℕ) (count : ℕ) (fractions : List Float) : Type 0 where
  pub at : (e n : ℕ) → e < min count limits.envelopes → n < 32 → fraction_at fractions e n ≡ fraction (borders_of borders count) e n

-- the coefficients of a band in the frame's slots; there is none from 34 on, nor one whose course is not there
pub record Coefficients (rows fractions : List Float) (borders : List ℕ) (count slots band : ℕ) (runs : List Float) : Type 0 where
  pub slot : band < 34 → limits.course * band + limits.course ≤ length rows → (n : ℕ) → n < slots → matrix_at runs n ≡ matrix_by (borders_of borders count) (fraction_at fractions) (border_matrix rows band) n
