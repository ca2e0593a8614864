-- What the carried numbers of mixing hold, band by band. Assumes nothing.
use Rattle.std.specs.Prelude.{ℕ, ◌*◌, List, ◌++◌, Float, ℤ, drop}
use Rattle.layout.specs.declared.Layout.{Layout}
use Rattle.layout.specs.Numbers.{bands_of}
use Rattle.lists.specs.Part.{part}
use Rattle.lists.specs.Rows.{rows}
use Rattle.planar.specs.Frame.{kept_matrix, numbers_of, ipd_of, opd_of, phase_numbers}
use Rattle.standard.specs.Mixing.{Kept}
use Rattle.ps_stereo.specs.declared.PsStereo.{PsStereo}

-- what band b keeps
abbrev pub kept_in : List Float → List ℤ → ℕ → Kept
kept_in matrices phases b = record { matrix = kept_matrix (part (8 * b) 8 matrices); ipd = ipd_of phases b; opd = opd_of phases b }

-- the numbers that hold what a layout's bands keep; what lies behind stays
unfoldable pub matrices_with : Layout → (ℕ → Kept) → List Float → List Float
matrices_with l kept old = rows (λ b. numbers_of (kept b).matrix) (bands_of l) ++ drop (8 * bands_of l) old

unfoldable pub phases_with : Layout → (ℕ → Kept) → List ℤ → List ℤ
phases_with l kept old = rows (λ b. phase_numbers (kept b).ipd (kept b).opd) (bands_of l) ++ drop (4 * bands_of l) old

abbrev pub stereo_with : Layout → (ℕ → Kept) → PsStereo → PsStereo
stereo_with l kept old = record { matrices = matrices_with l kept old.matrices; phases = phases_with l kept old.phases }
