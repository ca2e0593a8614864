-- Two states that are alike as far as the delays of a layout reach: what lies further back is never heard again. Assumes nothing.
use Rattle.std.specs.Prelude.{ℕ, ◌<◌, cond, ◌≡◌, List, ltb}
use Rattle.complex.specs.declared.Complex.{Complex}
use Rattle.layout.specs.declared.Layout.{Layout}
use Rattle.layout.specs.Numbers.{split_of, bands_of, channels_of, all_pass_of, short_delay_of}
use Rattle.standard.specs.Channel.{Channel, back}
use Rattle.standard.specs.Core.{Core}
use Rattle.calls.specs.Call.{Playing}

-- two histories with the same last d entries
abbrev pub Alike : ℕ → List Complex → List Complex → Type 0
Alike d g h = (i : ℕ) → i < d → back i g ≡ back i h

-- how far back channel k looks at what came in: z^-2 before a chain, 14 slots, or one
abbrev pub reach_of : Layout → ℕ → ℕ
reach_of l k = cond (ltb k (all_pass_of l)) 2 (cond (ltb k (short_delay_of l)) 14 1)

-- a channel k of two states; a plain delay has no links
pub record NearChannel (l : Layout) (k : ℕ) (c d : Channel) : Type 0 where
  pub past : Alike (reach_of l k) c.past d.past
  pub first : k < all_pass_of l → Alike 3 c.first d.first
  pub second : k < all_pass_of l → Alike 4 c.second d.second
  pub third : k < all_pass_of l → Alike 5 c.third d.third

pub record NearCore (s t : Core) : Type 0 where
  pub layout : s.layout ≡ t.layout
  pub cued : s.cued ≡ t.cued
  pub channel : (k : ℕ) → k < channels_of s.layout → NearChannel s.layout k (s.channel k) (t.channel k)
  pub detector : (b : ℕ) → b < bands_of s.layout → s.detector b ≡ t.detector b
  pub kept : (b : ℕ) → b < bands_of s.layout → s.kept b ≡ t.kept b

pub record Near (s t : Playing) : Type 0 where
  pub slots : s.slots ≡ t.slots
  pub lines : s.lines ≡ t.lines
  pub past : (p : ℕ) → p < split_of s.core.layout → Alike 6 (s.past p) (t.past p)
  pub core : NearCore s.core t.core
