-- A stereo band hears only itself: what two runs have to agree on, and what they then give alike. Assumes nothing.
use Rattle.std.specs.Prelude.{ℕ, ◌+◌, ◌-◌, ◌≤◌, ◌<◌, ◌≡◌}
use Rattle.complex.specs.declared.Complex.{Complex}
use Rattle.layout.specs.declared.Layout.{Layout}
use Rattle.layout.specs.Numbers.{channels_of, split_of, unsplit_from_of}
use Rattle.ps_map.specs.Bands.{band_of}
use Rattle.standard.specs.Core.{Frame, envelopes, fresh, left, right}
use Rattle.standard.specs.Hybrid.{synthesised}

-- two frames of a layout that match in all but samples and cues, and agree on band b's cues and on the hybrid samples of its channels
pub record Same (l : Layout) (b : ℕ) (f g : Frame) : Type 0 where
  pub layout : f.head.layout ≡ l
  pub heads : f.head ≡ g.head
  pub cues : (e : ℕ) → e < envelopes f.head → f.cue e b ≡ g.cue e b
  pub samples : (n k : ℕ) → n < f.head.slots → k < channels_of l → band_of l k ≡ b → f.sample n k ≡ g.sample n k

-- frame i of two runs gives band b alike: the left and right hybrid samples of its channels, and the output of each unsplit QMF band q under it
pub record Heard (l : Layout) (b : ℕ) (f g : ℕ → Frame) (i : ℕ) : Type 0 where
  pub lefts : (n k : ℕ) → n < (f i).head.slots → k < channels_of l → band_of l k ≡ b → left fresh f i n k ≡ left fresh g i n k
  pub rights : (n k : ℕ) → n < (f i).head.slots → k < channels_of l → band_of l k ≡ b → right fresh f i n k ≡ right fresh g i n k
  pub left_rows : (n q : ℕ) → n < (f i).head.slots → split_of l ≤ q → q < 64 → band_of l (q + unsplit_from_of l - split_of l) ≡ b
      → synthesised l (left fresh f i n) q ≡ synthesised l (left fresh g i n) q
  pub right_rows : (n q : ℕ) → n < (f i).head.slots → split_of l ≤ q → q < 64 → band_of l (q + unsplit_from_of l - split_of l) ≡ b
      → synthesised l (right fresh f i n) q ≡ synthesised l (right fresh g i n) q
