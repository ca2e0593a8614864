-- With the standard's table of directions the bands keep what the standard's definition says; a frame without phase reads none. Assumes nothing.
use mathlib.Core.Path.{◌≡◌, refl, ap, ◌∙◌}
use mathlib.Core.Bool.{Bool, true, false, cond}
use mathlib.Core.List.{List, []}
use Prim.Native.Nat.{ℕ, zero, suc}
use lib.Ieee.{Float}
use lib.IntN.{ℤ}
use Rattle.calls.specs.Call.{modes_of}
use Rattle.calls.specs.Cues.{cue_at}
use Rattle.cue.specs.declared.Header.{Header}
use Rattle.layout.specs.declared.Layout.{Layout}
use Rattle.mixing_table.specs.Values.{mixing}
use Rattle.phase_table.specs.Values.{phase}
use Rattle.ps_data.specs.Indices.{PsIndices}
use Rattle.ps_stereo.specs.Kept.{kept_in}
use Rattle.standard.specs.declared.Matrix.{Matrix}
use Rattle.standard.specs.declared.Modes.{Modes}
use Rattle.standard.specs.Interpolation.{kept_at}
use Rattle.standard.specs.Mixing as standard
use Rattle.standard.specs.Mixing.{Cue, Kept, matrix_from}
use Rattle.ps_stereo_borders.specs.Borders.{kept_after, kept_then}

-- without phase no direction is read
unread : (coefficients : List ℤ) (modes : Modes) (kept : Kept) (cue : Cue)
    → matrix_from coefficients (cond modes.phase phase []) modes kept cue ≡ matrix_from coefficients phase modes kept cue
unfolding matrix_from standard.unrotated
unread coefficients modes kept cue =
    go modes.phase (λ directions. matrix_from coefficients directions (record { fine = modes.fine; rb = modes.rb; phase = true }) kept cue)
    (matrix_from coefficients phase (record { fine = modes.fine; rb = modes.rb; phase = false }) kept cue)
  where
    go : (t : Bool) (turned : List ℤ → Matrix) (plain : Matrix) → cond t (turned (cond t phase [])) plain ≡ cond t (turned phase) plain
    go true turned plain = refl
    go false turned plain = refl

module _ (l : Layout) (h : Header) (indices : PsIndices) (matrices : List Float) (phases : List ℤ) where
  -- the table that a frame's coefficients are made from
  abbrev directions : List ℤ
  directions = cond h.phase phase []

  after_is : (kept : Kept) (cue : Cue) → kept_after l h indices directions matrices phases kept cue ≡ standard.kept_after (modes_of h) kept cue
  unfolding standard.kept_after
  after_is kept cue = λ i. record {
    matrix = unread mixing (modes_of h) kept cue i;
    ipd = standard.phases_after h.phase kept.ipd cue.ipd;
    opd = standard.phases_after h.phase kept.opd cue.opd;
  }

  pub then_standard : (b e : ℕ) → kept_then l h indices (cond h.phase phase []) matrices phases b e ≡ kept_at (modes_of h) (λ i. cue_at l h.config indices i b) (kept_in matrices phases b) e
  unfolding kept_then kept_at
  then_standard b zero = refl
  then_standard b (suc e) =
      let cue = cue_at l h.config indices e b in
      ap (λ (k : Kept). kept_after l h indices directions matrices phases k cue) (then_standard b e)
      ∙ after_is (kept_at (modes_of h) (λ i. cue_at l h.config indices i b) (kept_in matrices phases b) e) cue
