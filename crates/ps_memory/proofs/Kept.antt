-- A fresh decoder is a state that memory keeps, and an accepted frame leaves one. Assumes nothing.
use mathlib.Core.Path.{◌≡◌, refl, sym, subst}
use Prim.Native.Nat.{ℕ, ◌≤◌}
use native.Mathlib.Omega.{arith}
use Rattle.calls.specs.Call.{Call, header, layout, resolved, frame_of, after}
use Rattle.calls.specs.Cues.{cue_at}
use Rattle.layout.specs.declared.Layout.{Layout}
use Rattle.ps_state.specs.declared.PsDecoder.{PsDecoder}
use Rattle.ps_state.specs.Ready.{switched_from, readied}
use Rattle.ps_state.specs.State.{fresh_decoder, core_of, playing_of, stored}
use Rattle.ps_state.proofs.Readied.{shaped_readied}
use Rattle.ps_state.proofs.Stored.{shaped_fresh, shaped_stored}
use Rattle.ps_stereo.specs.State.{switched_to}
use Rattle.standard.specs.Core.{same_layout}
use Rattle.ps_memory.specs.Shape.{Narrow, StateKept}
use Rattle.ps_memory.proofs.Mapped.{phases_narrow}
use Rattle.ps_memory.proofs.Narrow.{either, narrow_zeros}
use Rattle.ps_memory.proofs.Phases.{SmallCue, SmallKept, next_small, kept_in_small, held_narrow}
use Rattle.ps_memory.proofs.Rows.{none_kept, line_kept}

pub fresh_kept_lem : (asked : ℕ) → 6 ≤ asked → asked ≤ 32 → StateKept (fresh_decoder asked)
fresh_kept_lem asked h k =
    record {
      fewest = h;
      most = k;
      turned = omega arith;
      shape = shaped_fresh asked;
      rows = record { iid = none_kept; icc = none_kept; ipd = none_kept; opd = none_kept };
      phases = narrow_zeros 136;
    }

-- ---- what is made ready for a frame

-- what holds of a state, whatever its layout and sound, holds of it made ready
module _ (s : PsDecoder) (l : Layout) (edge : ℕ) where
  pub readied_asked : (readied l edge s).asked ≡ s.asked
  unfolding readied switched_from
  readied_asked = either (λ (t : PsDecoder). t.asked ≡ s.asked) (same_layout s.layout l) s _ refl refl

  readied_phases : Narrow s.stereo.phases → Narrow (readied l edge s).stereo.phases
  unfolding readied switched_from switched_to
  readied_phases narrow = either (λ (t : PsDecoder). Narrow t.stereo.phases) (same_layout s.layout l) s _ narrow (narrow_zeros 136)

-- ---- an accepted frame

module _ (s : PsDecoder) (c : Call) (kept : StateKept s) where
  cue_small : (e b : ℕ) → SmallCue ((frame_of (playing_of s) c).cue e b)
  unfolding frame_of playing_of cue_at
  cue_small e b =
      let line = line_kept s.lines kept.rows c.line in
      let l = layout (playing_of s) c in
      let config = (header (playing_of s) c).config in
      record {
        ipd = (phases_narrow l config (resolved (playing_of s) c).indices.ipd e line.ipd).at b;
        opd = (phases_narrow l config (resolved (playing_of s) c).indices.opd e line.opd).at b;
      }

  core_small : (b : ℕ) → SmallKept ((core_of s).kept b)
  unfolding core_of
  core_small b = kept_in_small s.stereo.matrices s.stereo.phases kept.phases b

  abbrev made : PsDecoder
  made = readied (layout (playing_of s) c) c.edge s

  pub accepted_kept : StateKept (stored made (after (playing_of s) c))
  unfolding stored after playing_of
  accepted_kept =
      let next = after (playing_of s) c in
      let asked = readied_asked s (layout (playing_of s) c) c.edge in
      record {
        fewest = subst (λ (n : ℕ). 6 ≤ n) (sym asked) kept.fewest;
        most = subst (λ (n : ℕ). n ≤ 32) (sym asked) kept.most;
        turned = omega arith;
        shape = shaped_stored made next (shaped_readied s (layout (playing_of s) c) c.edge kept.shape);
        rows = (line_kept s.lines kept.rows c.line).rows;
        phases =
            held_narrow next.core.layout next.core.kept made.stereo.phases
            (next_small (core_of s) core_small (frame_of (playing_of s) c) cue_small)
            (readied_phases s (layout (playing_of s) c) c.edge kept.phases);
      }
