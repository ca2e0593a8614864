-- §8.6.4.6.2 and §8.6.4.6.3: the mixing coefficients of one stereo band at an envelope's border. Assumes nothing.
use Rattle.std.specs.Prelude.{ℕ, Bool, cond, List, ℤ, pos, ◌+ℤ◌, Float}
use Rattle.complex.specs.declared.Complex.{Complex}
use Rattle.complex.specs.Operations.{product, sum, conjugate}
use Rattle.ps_kinds.specs.declared.Kinds.{Kinds}
use Rattle.mixing_table.specs.declared.Coefficients.{Coefficients}
use Rattle.mixing_table.specs.Coefficients.{coefficients_at}
use Rattle.mixing_table.specs.Values.{mixing}
use Rattle.phase_table.specs.Directions.{direction_at}
use Rattle.phase_table.specs.Values.{phase}
use Rattle.standard.specs.declared.Matrix.{Matrix}
use Rattle.standard.specs.declared.Modes.{Modes}
use Rattle.standard.specs.Numbers.{zero, nought, natural_of}

abbrev pub no_matrix : Matrix
no_matrix = record { h11 = nought; h12 = nought; h21 = nought; h22 = nought }

-- an envelope's mapped indices, of each kind one for every band
abbrev pub Cues : Type 0
Cues = Kinds (List ℤ)

-- one band's resolved and mapped indices in one envelope
pub record Cue : Type 0 where
  pub iid : ℤ
  pub icc : ℤ
  pub ipd : ℤ
  pub opd : ℤ

-- ---- without phase

abbrev real : Float → Complex
real h = record { re = h; im = zero }

-- an IID index counts from -7 or, on the fine grid, from -15
abbrev pub level_of : Bool → ℤ → ℕ
level_of fine iid = natural_of (iid +ℤ cond fine (pos 15) (pos 7))

unfoldable pub unrotated : List ℤ → Modes → Cue → Matrix
unrotated table modes cue =
    let set = coefficients_at table modes.rb modes.fine (level_of modes.fine cue.iid) (natural_of cue.icc) in
    record { h11 = real set.h11; h12 = real set.h12; h21 = real set.h21; h22 = real set.h22 }

-- ---- with phase

-- the two phase indices before an envelope, of each kind
pub record Phases : Type 0 where
  pub oldest : ℤ
  pub previous : ℤ

-- e^(jφ) of the smoothed phase
unfoldable pub direction_of : List ℤ → Phases → ℤ → Complex
direction_of table p current = direction_at table (natural_of p.oldest) (natural_of p.previous) (natural_of current)

-- r1 turns h11 and h21, r2 turns h12 and h22
unfoldable pub rotated_by : Complex → Complex → Matrix → Matrix
rotated_by r1 r2 h = record { h11 = product h.h11 r1; h12 = product h.h12 r2; h21 = product h.h21 r1; h22 = product h.h22 r2 }

-- ---- what a band keeps

pub record Kept : Type 0 where
  pub matrix : Matrix
  pub ipd : Phases
  pub opd : Phases

abbrev pub no_phases : Phases
no_phases = record { oldest = pos 0; previous = pos 0 }

abbrev pub fresh_kept : Kept
fresh_kept = record { matrix = no_matrix; ipd = no_phases; opd = no_phases }

-- r1 is the OPD direction, r2 its product with the conjugate IPD direction; from a table of coefficients and one of directions
unfoldable pub matrix_from : List ℤ → List ℤ → Modes → Kept → Cue → Matrix
matrix_from coefficients directions modes kept cue =
    let r1 = direction_of directions kept.opd cue.opd in
    let r2 = product r1 (conjugate (direction_of directions kept.ipd cue.ipd)) in
    let h = unrotated coefficients modes cue in
    cond modes.phase (rotated_by r1 r2 h) h

abbrev pub matrix_of : Modes → Kept → Cue → Matrix
matrix_of modes kept cue = matrix_from mixing phase modes kept cue

-- the history moves one place for each envelope of a frame with phase, and otherwise stays
unfoldable pub phases_after : Bool → Phases → ℤ → Phases
phases_after moves p current = cond moves (record { oldest = p.previous; previous = current }) p

unfoldable pub kept_after : Modes → Kept → Cue → Kept
kept_after modes kept cue =
    record {
      matrix = matrix_of modes kept cue;
      ipd = phases_after modes.phase kept.ipd cue.ipd;
      opd = phases_after modes.phase kept.opd cue.opd;
    }

-- ---- mixing, §8.6.4.6

-- a channel marked with * takes the conjugate of a coefficient
abbrev pub taken : Bool → Complex → Complex
taken marked h = cond marked (conjugate h) h

-- l = H11 s + H21 d, r = H12 s + H22 d
unfoldable pub left_of : Bool → Matrix → Complex → Complex → Complex
left_of marked h s d = sum (product (taken marked h.h11) s) (product (taken marked h.h21) d)

unfoldable pub right_of : Bool → Matrix → Complex → Complex → Complex
right_of marked h s d = sum (product (taken marked h.h12) s) (product (taken marked h.h22) d)
