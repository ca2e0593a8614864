-- §8.6.4.6.2 and §8.6.4.6.3: the coefficients of every band at an envelope's border. The phase indices: four for each band. The rows: for each band its
-- course, eight numbers at each border; envelope e has those at border e + 1. Assumes nothing.
use Rattle.std.specs.Prelude.{ℕ, ◌+◌, ◌*◌, Bool, cond, ◌&&◌, List, ◌++◌, leb, ltb, ℤ, pos, Float, length, get_or, drop}
use Rattle.layout.specs.declared.Layout.{Layout}
use Rattle.layout.specs.Numbers.{bands_of}
use Rattle.limits.specs.Limits as limits
use Rattle.lists.specs.Part.{part, put}
use Rattle.lists.specs.Rows as lists
use Rattle.planar.specs.Frame.{numbers_of, ipd_of, opd_of, phase_numbers}
use Rattle.standard.specs.declared.Matrix.{Matrix}
use Rattle.standard.specs.declared.Modes.{Modes}
use Rattle.standard.specs.Mixing.{Cues, no_matrix, Cue, Kept, matrix_from, phases_after}

-- band b's indices, and its four phase indices
abbrev pub cue_of : Cues → ℕ → Cue
cue_of cues b =
    record { iid = get_or cues.iid b (pos 0); icc = get_or cues.icc b (pos 0); ipd = get_or cues.ipd b (pos 0); opd = get_or cues.opd b (pos 0) }

abbrev pub phases_of : List ℤ → ℕ → List ℤ
phases_of phases b = part (4 * b) 4 phases

-- what a band keeps, but for its coefficients, which the next ones do not depend on
abbrev pub kept_of : List ℤ → Kept
kept_of four = record { matrix = no_matrix; ipd = ipd_of four 0; opd = opd_of four 0 }

-- a band's coefficients, and its phase indices after them
abbrev pub matrix_at : List ℤ → List ℤ → Modes → Cue → List ℤ → Matrix
matrix_at coefficients directions modes cue four = matrix_from coefficients directions modes (kept_of four) cue

abbrev pub phases_then : Bool → Cue → List ℤ → List ℤ
phases_then moves cue four = phase_numbers (phases_after moves (ipd_of four 0) cue.ipd) (phases_after moves (opd_of four 0) cue.opd)

-- ---- all bands of a layout; what lies behind them stays

unfoldable pub rows_then : List ℤ → List ℤ → Layout → Modes → Cues → List ℤ → ℕ → List Float → List Float
rows_then coefficients directions l modes cues phases e old =
    lists.rows (λ b. put (8 * (e + 1)) 8 (part (limits.course * b) limits.course old) (numbers_of (matrix_at coefficients directions modes (cue_of cues b) (phases_of phases b)))) (bands_of l)
    ++ drop (limits.course * bands_of l) old

unfoldable pub kept_then : Layout → Modes → Cues → List ℤ → List ℤ
kept_then l modes cues phases = lists.rows (λ b. phases_then modes.phase (cue_of cues b) (phases_of phases b)) (bands_of l) ++ drop (4 * bands_of l) phases

-- an envelope past the last, or lists without room, change nothing
abbrev pub fits : Layout → List ℤ → ℕ → List Float → Bool
fits l phases e rows = ltb e limits.envelopes && leb (4 * bands_of l) (length phases) && leb (limits.course * bands_of l) (length rows)

unfoldable pub rows_after : List ℤ → List ℤ → Layout → Modes → Cues → List ℤ → ℕ → List Float → List Float
rows_after coefficients directions l modes cues phases e old = cond (fits l phases e old) (rows_then coefficients directions l modes cues phases e old) old

unfoldable pub kept_after : Layout → Modes → Cues → List ℤ → ℕ → List Float → List ℤ
kept_after l modes cues phases e rows = cond (fits l phases e rows) (kept_then l modes cues phases) phases
