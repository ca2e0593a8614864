-- A stereo band hears only itself, over runs of calls from fresh states. Assumes nothing.
use Rattle.std.specs.Prelude.{ℕ, ◌+◌, ◌-◌, ◌≤◌, ◌<◌, ◌≡◌, List, Float}
use Rattle.complex.specs.declared.Complex.{Complex}
use Rattle.layout.specs.declared.Layout.{Layout}
use Rattle.layout.specs.Numbers.{channels_of, split_of, unsplit_from_of}
use Rattle.planar.specs.Frame.{qmf_at}
use Rattle.ps_map.specs.Bands.{band_of}
use Rattle.standard.specs.Core.{Core, Frame, ready, left_at, right_at}
use Rattle.standard.specs.Isolation.{Same}
use Rattle.calls.specs.Call.{Call, Playing, Outcome}
use Rattle.calls.specs.Run.{carried, outcome, frame_at, Accepted}

-- two runs whose calls are all accepted up to call i, of one layout from the first frame on, that match frame by frame in slots, empty lines, borders
-- and so the envelope count, phase switch, IID quantiser, mixing procedure and spectrum edge, and agree on band b's hybrid samples and mapped cues
pub record Matching (l : Layout) (b : ℕ) (s t : Playing) (c d : ℕ → Call) (i : ℕ) : Type 0 where
  pub accepted : Accepted s c i
  pub accepted_too : Accepted t d i
  pub frames : (j : ℕ) → j ≤ i → Same l b (frame_at s c j) (frame_at t d j)

-- one side's hybrid samples in call i
abbrev pub hybrid_at : (Frame → Core → ℕ → ℕ → Complex) → Playing → (ℕ → Call) → ℕ → ℕ → ℕ → Complex
hybrid_at side s c i n k = side (frame_at s c i) (ready (frame_at s c i).head (carried s c i).core) n k

-- call i of both gives a side of band b alike, bit for bit: its hybrid samples, and the numbers written for each unsplit QMF band q under it
pub record AlikeOn (side : Frame → Core → ℕ → ℕ → Complex) (written : Outcome → List Float) (l : Layout) (b : ℕ) (s t : Playing) (c d : ℕ → Call) (i : ℕ) : Type 0 where
  pub samples : (n k : ℕ) → n < (carried s c i).slots → k < channels_of l → band_of l k ≡ b → hybrid_at side s c i n k ≡ hybrid_at side t d i n k
  pub rows : (n q : ℕ) → n < (carried s c i).slots → split_of l ≤ q → q < 64 → band_of l (q + unsplit_from_of l - split_of l) ≡ b
      → qmf_at (written (outcome s c i)) n q ≡ qmf_at (written (outcome t d i)) n q

pub record Alike (l : Layout) (b : ℕ) (s t : Playing) (c d : ℕ → Call) (i : ℕ) : Type 0 where
  pub left : AlikeOn left_at (λ o. o.left) l b s t c d i
  pub right : AlikeOn right_at (λ o. o.right) l b s t c d i
