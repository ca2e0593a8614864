-- What the bands keep after each envelope, and their phase indices. Assumes nothing.
use mathlib.Core.Path.{◌≡◌, refl, sym, ap, ap₂, ◌∙◌}
use mathlib.Core.List.{List, ◌++◌}
use Prim.Native.Nat.{ℕ, ◌+◌, ◌*◌, ◌<◌, ◌≤◌}
use native.Mathlib.Numerals.{add-one}
use native.Mathlib.Omega.{arith}
use lib.Ieee.{Float}
use lib.IntN.{ℤ}
use lib.ListN.{length, drop}
use Rattle.calls.specs.Call.{modes_of}
use Rattle.calls.specs.Cues.{cue_at}
use Rattle.cue.specs.declared.Header.{Header}
use Rattle.layout.specs.declared.Layout.{Layout}
use Rattle.layout.specs.Numbers.{bands_of}
use Rattle.lists.specs.Part.{part}
use Rattle.lists.proofs.Rows.{rows_same}
use Rattle.planar.specs.Frame.{ipd_of, opd_of, phase_numbers}
use Rattle.ps_data.specs.Indices.{PsIndices}
use Rattle.ps_stereo.specs.Kept.{phases_with}
use Rattle.ps_stereo_cues.specs.Cues.{cues_at}
use Rattle.ps_stereo_envelope.specs.Envelope as envelope
use Rattle.standard.specs.Mixing.{Kept}
use Rattle.ps_stereo_borders.specs.Borders.{kept_after, kept_then}
use Rattle.ps_stereo_borders.proofs.Parts.{four_of}
use Rattle.ps_stereo_borders.proofs.Runs.{runs_cut, runs_part, runs_drop, runs_length}

module _ (l : Layout) (h : Header) (indices : PsIndices) (directions : List ℤ) (matrices : List Float) (phases : List ℤ) where
  pub then_next : (b e : ℕ) → kept_then l h indices directions matrices phases b (e + 1)
      ≡ kept_after l h indices directions matrices phases (kept_then l h indices directions matrices phases b e) (cue_at l h.config indices e b)
  unfolding kept_then
  then_next b e = rw (add-one e)

  abbrev pub phases_at : ℕ → List ℤ
  phases_at e = phases_with l (λ b. kept_then l h indices directions matrices phases b e) phases

  -- what is read of band b
  pub phases_part : (e b : ℕ) → b < bands_of l → let k = kept_then l h indices directions matrices phases b e in part (4 * b) 4 (phases_at e) ≡ phase_numbers k.ipd k.opd
  unfolding phases_with
  phases_part e b u = runs_part (λ b. let k = kept_then l h indices directions matrices phases b e in phase_numbers k.ipd k.opd) 4 (bands_of l) (λ k v. refl) (drop (4 * bands_of l) phases) b u

  -- and what is kept of it
  next : (e b : ℕ) → b < bands_of l → let k = kept_then l h indices directions matrices phases b (e + 1) in
      envelope.phases_then h.phase (envelope.cue_of (cues_at l h.config indices e) b) (part (4 * b) 4 (phases_at e)) ≡ phase_numbers k.ipd k.opd
  unfolding cues_at cue_at
  next e b u =
      ap (envelope.phases_then h.phase (cue_at l h.config indices e b)) (phases_part e b u)
      ∙ ap (λ (k : Kept). phase_numbers k.ipd k.opd) (sym (then_next b e))

  -- one envelope more
  pub phases_more : (e : ℕ) → envelope.kept_then l (modes_of h) (cues_at l h.config indices e) (phases_at e) ≡ phases_at (e + 1)
  unfolding envelope.kept_then phases_with
  phases_more e =
      ap₂ (λ (p q : List ℤ). p ++ q) (rows_same _ _ (bands_of l) (next e))
      (runs_drop (λ b. let k = kept_then l h indices directions matrices phases b e in phase_numbers k.ipd k.opd) 4 (bands_of l) (λ k v. refl) (drop (4 * bands_of l) phases))

  module _ (room : 4 * bands_of l ≤ length phases) where
    -- at the start they are as they were
    pub phases_first : phases ≡ phases_at 0
    unfolding phases_with kept_then
    phases_first =
        runs_cut 4 (bands_of l) phases
        ∙ ap (λ (p : List ℤ). p ++ drop (4 * bands_of l) phases)
        (rows_same (λ b. part (4 * b) 4 phases) (λ b. phase_numbers (ipd_of phases b) (opd_of phases b)) (bands_of l) (λ b u. four_of b phases (omega arith)))

    pub phases_length : (e : ℕ) → length (phases_at e) ≡ length phases
    unfolding phases_with
    phases_length e = runs_length (λ b. let k = kept_then l h indices directions matrices phases b e in phase_numbers k.ipd k.opd) 4 (bands_of l) (λ k v. refl) phases room
