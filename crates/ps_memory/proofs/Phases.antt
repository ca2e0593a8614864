-- The history of phase indices holds small numbers after every frame. Assumes nothing.
use mathlib.Core.Bool.{Bool, true, false}
use mathlib.Core.List.{List}
use Prim.Native.Nat.{ℕ, zero, suc, ◌+◌, ◌*◌, ◌<◌}
use native.Mathlib.Omega.{arith}
use lib.Ieee.{Float}
use lib.IntN.{ℤ}
use lib.Signed.{mag}
use Rattle.layout.specs.declared.Layout.{Layout}
use Rattle.layout.specs.Numbers.{bands_of}
use Rattle.planar.specs.Frame.{phase_numbers}
use Rattle.ps_stereo.specs.Kept.{kept_in, phases_with}
use Rattle.standard.specs.declared.Modes.{Modes}
use Rattle.standard.specs.Core.{Core, Frame, remapped, switched, ready, kept_then, after, next, same_layout, envelopes}
use Rattle.standard.specs.Interpolation.{kept_at}
use Rattle.standard.specs.Mixing.{Cue, Phases, Kept, no_phases, phases_after, kept_after}
use Rattle.ps_memory.specs.Shape.{Narrow}
use Rattle.ps_memory.proofs.Narrow.{either, narrow_none, narrow_more, narrow_append, narrow_rows, narrow_drop}

pub record SmallPhases (p : Phases) : Type 0 where
  pub oldest : mag p.oldest < 128
  pub previous : mag p.previous < 128

pub record SmallKept (k : Kept) : Type 0 where
  pub ipd : SmallPhases k.ipd
  pub opd : SmallPhases k.opd

pub record SmallCue (c : Cue) : Type 0 where
  pub ipd : mag c.ipd < 128
  pub opd : mag c.opd < 128

no_phases_small : SmallPhases no_phases
no_phases_small = record { oldest = omega arith; previous = omega arith }

-- ---- an envelope, and those of a frame

phases_after_small : (moves : Bool) (p : Phases) (z : ℤ) → SmallPhases p → mag z < 128 → SmallPhases (phases_after moves p z)
unfolding phases_after
phases_after_small true p z s h = record { oldest = s.previous; previous = h }
phases_after_small false p z s h = s

kept_after_small : (modes : Modes) (k : Kept) (c : Cue) → SmallKept k → SmallCue c → SmallKept (kept_after modes k c)
unfolding kept_after
kept_after_small modes k c s h =
    record {
      ipd = phases_after_small modes.phase k.ipd c.ipd s.ipd h.ipd;
      opd = phases_after_small modes.phase k.opd c.opd s.opd h.opd;
    }

kept_at_small : (modes : Modes) (cue : ℕ → Cue) (k : Kept) (e : ℕ) → SmallKept k → ((i : ℕ) → SmallCue (cue i)) → SmallKept (kept_at modes cue k e)
unfolding kept_at
kept_at_small modes cue k zero s h = s
kept_at_small modes cue k (suc e) s h = kept_after_small modes (kept_at modes cue k e) (cue e) (kept_at_small modes cue k e s h) (h e)

-- ---- a frame

module _ (s : Core) (small : (b : ℕ) → SmallKept (s.kept b)) where
  switched_small : (l : Layout) (b : ℕ) → SmallKept ((switched l s).kept b)
  unfolding switched remapped
  switched_small l b =
      either (λ (t : Core). SmallKept (t.kept b)) (same_layout s.layout l) s _ (small b) (record { ipd = no_phases_small; opd = no_phases_small })

  pub next_small : (f : Frame) → ((e b : ℕ) → SmallCue (f.cue e b)) → (b : ℕ) → SmallKept ((next s f).kept b)
  unfolding next after ready kept_then
  next_small f cues b =
      kept_at_small f.head.modes (λ i. f.cue i b) ((switched f.head.layout s).kept b) (envelopes f.head) (switched_small f.head.layout b) (λ i. cues i b)

-- ---- the numbers that hold it

pub kept_in_small : (matrices : List Float) (phases : List ℤ) → Narrow phases → (b : ℕ) → SmallKept (kept_in matrices phases b)
kept_in_small matrices phases n b =
    record {
      ipd = record { oldest = n.at (4 * b); previous = n.at (4 * b + 1) };
      opd = record { oldest = n.at (4 * b + 2); previous = n.at (4 * b + 3) };
    }

numbers_narrow : (k : Kept) → SmallKept k → Narrow (phase_numbers k.ipd k.opd)
numbers_narrow k s =
    narrow_more k.ipd.oldest _ s.ipd.oldest
    (narrow_more k.ipd.previous _ s.ipd.previous
    (narrow_more k.opd.oldest _ s.opd.oldest (narrow_more k.opd.previous _ s.opd.previous narrow_none)))

pub held_narrow : (l : Layout) (kept : ℕ → Kept) (old : List ℤ) → ((b : ℕ) → SmallKept (kept b)) → Narrow old → Narrow (phases_with l kept old)
unfolding phases_with
held_narrow l kept old small narrow =
    narrow_append _ _ (narrow_rows _ (bands_of l) (λ b. numbers_narrow (kept b) (small b))) (narrow_drop (4 * bands_of l) old narrow)
