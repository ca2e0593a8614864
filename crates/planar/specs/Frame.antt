-- A frame in flat lists: the hybrid samples, for each channel of a split band a run of 32 slots; a band's coefficients, four runs of 32 slots; what the
-- bands keep; and QMF slots, rows of 64 complex numbers side by side. Assumes nothing.
use Rattle.std.specs.Prelude.{ℕ, ◌+◌, ◌-◌, ◌*◌, ◌/◌, ◌%◌, cond, List, [], ◌∷◌, ◌++◌, eqb, ltb, ℤ, pos, Float, get_or}
use Rattle.complex.specs.declared.Complex.{Complex}
use Rattle.layout.specs.declared.Layout.{Layout}
use Rattle.layout.specs.Numbers.{split_of, unsplit_from_of}
use Rattle.lists.specs.Part.{part}
use Rattle.lists.specs.Rows.{tabulate}
use Rattle.standard.specs.declared.Matrix.{Matrix}
use Rattle.standard.specs.Mixing.{Phases}
use Rattle.planar.specs.Cells.{cell, planar}

-- slot n of channel k
abbrev pub sample_at : List Float → ℕ → ℕ → Complex
sample_at samples n k = cell 32 (part (64 * k) 64 samples) n

-- slot n's coefficients, and the list of all of them
abbrev pub matrix_at : List Float → ℕ → Matrix
matrix_at runs n = record { h11 = cell 32 (part 0 64 runs) n; h12 = cell 32 (part 64 64 runs) n; h21 = cell 32 (part 128 64 runs) n; h22 = cell 32 (part 192 64 runs) n }

abbrev pub matrix_runs : (ℕ → Matrix) → List Float
matrix_runs h = planar 32 (λ n. (h n).h11) ++ (planar 32 (λ n. (h n).h12) ++ (planar 32 (λ n. (h n).h21) ++ planar 32 (λ n. (h n).h22)))

-- coefficients kept as eight numbers, the parts of each side by side, and those numbers
abbrev pub kept_matrix : List Float → Matrix
kept_matrix numbers = record { h11 = cell 1 numbers 0; h12 = cell 1 numbers 2; h21 = cell 1 numbers 4; h22 = cell 1 numbers 6 }

abbrev pub numbers_of : Matrix → List Float
numbers_of h = h.h11.re ∷ h.h11.im ∷ h.h12.re ∷ h.h12.im ∷ h.h21.re ∷ h.h21.im ∷ h.h22.re ∷ h.h22.im ∷ []

-- a band's phase indices, four for each band: the oldest and the previous of IPD, then those of OPD; and those numbers
abbrev pub ipd_of : List ℤ → ℕ → Phases
ipd_of phases b = record { oldest = get_or phases (4 * b) (pos 0); previous = get_or phases (4 * b + 1) (pos 0) }

abbrev pub opd_of : List ℤ → ℕ → Phases
opd_of phases b = record { oldest = get_or phases (4 * b + 2) (pos 0); previous = get_or phases (4 * b + 3) (pos 0) }

abbrev pub phase_numbers : Phases → Phases → List ℤ
phase_numbers ipd opd = ipd.oldest ∷ ipd.previous ∷ opd.oldest ∷ opd.previous ∷ []

-- QMF band q in slot n, and the list of all of them
abbrev pub qmf_at : List Float → ℕ → ℕ → Complex
qmf_at qmf n q = cell 1 qmf (128 * n + 2 * q)

abbrev pub qmf_rows : ℕ → (ℕ → ℕ → Complex) → List Float
qmf_rows slots y = tabulate (λ i. cond (eqb (i % 2) 0) (y (i / 128) (i % 128 / 2)).re (y (i / 128) (i % 128 / 2)).im) (128 * slots)

-- the QMF band of an unsplit channel
abbrev pub qmf_band_of : Layout → ℕ → ℕ
qmf_band_of l k = k + split_of l - unsplit_from_of l

-- slot n of channel k, of a split band or not: an unsplit one is a QMF band of the input
abbrev pub sample_in : Layout → List Float → List Float → ℕ → ℕ → Complex
sample_in l samples input n k = cond (ltb k (unsplit_from_of l)) (sample_at samples n k) (qmf_at input n (qmf_band_of l k))
