-- What the flat lists of a frame hold, their room, and what each kind of channel reads of it. Assumes nothing.
use mathlib.Core.Path.{◌≡◌}
use mathlib.Core.List.{List}
use Prim.Native.Nat.{ℕ, ◌+◌, ◌*◌, ◌<◌, ◌≤◌}
use native.Mathlib.Omega.{arith}
use borrow.Author.Tests.{le-ltb}
use lib.Ieee.{Float, nan}
use lib.ListN.{length, get_or}
use Rattle.layout.specs.declared.Layout.{Layout}
use Rattle.layout.specs.Numbers.{bands_of, channels_of, unsplit_from_of, all_pass_of, groups_of}
use Rattle.layout.proofs.Bounds.{bounds}
use Rattle.limits.specs.Limits as limits
use Rattle.planar.specs.Frame.{qmf_at, qmf_band_of, sample_in}
use Rattle.ps_decorr.specs.Channels.{channel_in}
use Rattle.ps_stereo_slots.specs.declared.Timing.{Timing}
use Rattle.ps_stereo_slots.specs.Slots.{borders_of, border_matrix}
use Rattle.standard.specs.Core.{Frame, Core, duck, matrix_then}
use Rattle.standard.specs.Interpolation.{matrix_in}

pub record Flat (f : Frame) (s : Core) (places : List ℕ) (count turn : ℕ) (samples input gains rows delays plain : List Float) : Type 0 where
  pub few : f.head.slots ≤ 32
  pub samples_long : 64 * unsplit_from_of f.head.layout ≤ length samples
  pub input_long : 128 * f.head.slots ≤ length input
  pub gains_long : 32 * bands_of f.head.layout ≤ length gains
  pub rows_long : limits.course * bands_of f.head.layout ≤ length rows
  pub delays_long : 112 * groups_of f.head.layout ≤ length delays
  pub plain_long : length plain ≡ 394
  pub sample : (n k : ℕ) → n < f.head.slots → k < channels_of f.head.layout → sample_in f.head.layout samples input n k ≡ f.sample n k
  pub gain : (b n : ℕ) → b < bands_of f.head.layout → n < f.head.slots → get_or gains (32 * b + n) nan ≡ duck f s b n
  pub matrix : (b n : ℕ) → b < bands_of f.head.layout → matrix_in (borders_of places count) (border_matrix rows b) n ≡ matrix_then f s b n
  pub channel : (k : ℕ) → channel_in f.head.layout turn delays plain k ≡ s.channel k

-- when the frame's slots come
abbrev pub timing_of : Frame → List ℕ → ℕ → ℕ → Timing
timing_of f places count turn = record { borders = places; count = count; slots = f.head.slots; turn = turn }

module _ {f : Frame} {s : Core} {places : List ℕ} {count turn : ℕ} {samples input gains rows delays plain : List Float}
    (flat : Flat f s places count turn samples input gains rows delays plain) where
  abbrev l : Layout
  l = f.head.layout

  -- an all-pass channel reads a run of the list or a QMF band, a plain delay always its QMF band
  pub column_is : (n k : ℕ) → n < f.head.slots → k < all_pass_of l → sample_in l samples input n k ≡ f.sample n k
  column_is n k h u = flat.sample n k h (let b = bounds l in omega arith)

  pub row_is : (n k : ℕ) → n < f.head.slots → all_pass_of l ≤ k → k < channels_of l → qmf_at input n (qmf_band_of l k) ≡ f.sample n k
  row_is n k h u w = rw (le-ltb k (unsplit_from_of l) (omega (arith, (bounds l).passed))) at (flat.sample n k h w)
