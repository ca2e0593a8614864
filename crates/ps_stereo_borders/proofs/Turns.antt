-- The envelopes one after another: phase indices and courses after e of them, whatever coefficients the courses begin with. Assumes nothing.
use mathlib.Core.Path.{◌≡◌, sym, ◌∙◌}
use mathlib.Core.List.{List}
use Prim.Native.Nat.{ℕ, ◌+◌, ◌*◌, ◌<◌, ◌≤◌}
use lib.Ieee.{Float}
use lib.IntN.{ℤ}
use lib.ListN.{length}
use Rattle.calls.specs.Call.{modes_of}
use Rattle.cue.specs.declared.Header.{Header}
use Rattle.layout.specs.declared.Layout.{Layout}
use Rattle.layout.specs.Numbers.{bands_of}
use Rattle.limits.specs.Limits as limits
use Rattle.mixing_table.specs.Values.{mixing}
use Rattle.ps_data.specs.Indices.{PsIndices}
use Rattle.ps_stereo_cues.specs.Cues.{cues_at}
use Rattle.ps_stereo_envelope.specs.Envelope as envelope
use Rattle.ps_stereo_envelope.proofs.Fits.{kept_fit, rows_fit}
use Rattle.standard.specs.Mixing.{Cues}
use Rattle.standard.specs.declared.Modes.{Modes}
use Rattle.ps_stereo_borders.specs.Steps.{Advanced}
use Rattle.ps_stereo_borders.proofs.Courses.{courses_more}
use Rattle.ps_stereo_borders.proofs.Phases.{phases_first, phases_more}

pub turn_none : (l : Layout) (h : Header) (indices : PsIndices) (directions phases : List ℤ) (rows : List Float) → 4 * bands_of l ≤ length phases
    → Advanced l h indices directions phases rows 0 phases rows
turn_none l h indices directions phases rows room =
    record { moved = λ matrices. phases_first l h indices directions matrices phases room; courses = λ matrices lent room start. start }

module _ {l : Layout} {h : Header} {indices : PsIndices} {directions phases₀ : List ℤ} {rows₀ : List Float} {e : ℕ} {phases : List ℤ} {rows : List Float}
    (r : Advanced l h indices directions phases₀ rows₀ e phases rows) where
  -- at the end the counter is m
  pub turn_all : (m : ℕ) → e ≡ m → Advanced l h indices directions phases₀ rows₀ m phases rows
  turn_all m is = rw is at r

  pub turn_more : e < limits.envelopes → 4 * bands_of l ≤ length phases → limits.course * bands_of l ≤ length rows
      → {coefficients : List ℤ} {modes : Modes} {cues : Cues} {phases' : List ℤ} {rows' : List Float} → coefficients ≡ mixing → modes ≡ modes_of h → cues ≡ cues_at l h.config indices e
      → phases' ≡ envelope.kept_after l modes cues phases e rows → rows' ≡ envelope.rows_after coefficients directions l modes cues phases e rows
      → Advanced l h indices directions phases₀ rows₀ (e + 1) phases' rows'
  turn_more early long wide {coefficients} {modes} {cues} coefficients-are modes-are cues-are kept written =
      record {
        moved = λ matrices.
            kept ∙ sym (kept_fit coefficients directions l modes cues phases e rows early long wide) ∙ rw (modes-are, cues-are, r.moved matrices) (phases_more l h indices directions matrices phases₀ e);
        courses = λ matrices lent room start.
            written
            ∙ sym (rows_fit coefficients directions l modes cues phases e rows early long wide)
            ∙ rw (coefficients-are, modes-are, cues-are, r.moved matrices, r.courses matrices lent room start)
            (courses_more l h indices directions matrices phases₀ lent room e early);
      }
