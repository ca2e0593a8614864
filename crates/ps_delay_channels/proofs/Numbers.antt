-- A layout's channels above the all-pass ones: QMF bands 23 to 63, of which the first 12 are delays of 14 slots; none is conjugated. Assumes nothing.
use mathlib.Core.Path.{◌≡◌}
use mathlib.Core.Bool.{false}
use mathlib.Core.List.{List}
use Prim.Native.Nat.{ℕ, ◌+◌, ◌<◌, ◌≤◌}
use native.Mathlib.Omega.{arith}
use borrow.Author.Tests.{le-ltb}
use lib.Ieee.{Float}
use lib.ListN.{length}
use Rattle.layout.specs.declared.Kind.TheVariants.{Long, Short}
use Rattle.layout.specs.declared.Layout.{Layout}
use Rattle.layout.specs.declared.Layout.TheVariants.{Bands20, Bands34}
use Rattle.layout.specs.Numbers.{all_pass_of, channels_of, short_delay_of, kind_of}
use Rattle.layout.proofs.Bounds.{bounds}
use Rattle.layout.proofs.Ranges.{is_long, is_short}
use Rattle.planar.specs.Frame.{qmf_band_of}
use Rattle.ps_map.specs.Bands.{band_of, conjugated_of}
use Rattle.ps_map.proofs.Bands.{band_small}
use Rattle.ps_delay_channels.specs.declared.rows.Delay.{Delay}
use Rattle.ps_delay_channels.specs.Spans.{long_delay, short_delay, Before}

pub band_below : (l : Layout) (k : ℕ) → band_of l k < 34
band_below l k = omega (arith, band_small l k, (bounds l).bands)

pub none_conjugated : (l : Layout) (k : ℕ) → all_pass_of l ≤ k → conjugated_of l k ≡ false
none_conjugated Bands20 k h = le-ltb k 2 (omega arith)
none_conjugated Bands34 k h = rw (le-ltb k 9 (omega arith)) (le-ltb k 12 (omega arith))

-- ---- both delays, each by its first channel

module _ (l : Layout) (start position : ℕ) (d : Delay)
    (is : (kind_of l start ≡ Long → d ≡ long_delay position) × (kind_of l start ≡ Short → d ≡ short_delay)) where
  pub long_kind : start ≡ all_pass_of l → d ≡ long_delay position
  long_kind e = let m = bounds l in is.0 (is_long l start (omega arith) (omega arith))

  pub short_kind : start ≡ short_delay_of l → d ≡ short_delay
  short_kind e = let m = bounds l in is.1 (is_short l start (omega arith) (omega arith))

  -- what stands where
  abbrev Stands : List Float → Type 0
  Stands memory = (all_pass_of l ≤ start) × (start + d.bands ≤ channels_of l) × (d.first ≡ qmf_band_of l start) × Before d d.first d.bands memory

  pub long_lent : start ≡ all_pass_of l → position < 14 → (memory : List Float) → length memory ≡ 336 → Stands memory
  long_lent e small memory whole =
      let m = bounds l in
      rw (long_kind e)
      ((omega arith, omega arith, omega arith, record { behind = omega arith; within = omega arith; bands = omega arith; inside = small; room = λ n u. omega arith }))

  pub short_lent : start ≡ short_delay_of l → (memory : List Float) → length memory ≡ 58 → Stands memory
  short_lent e memory whole =
      let m = bounds l in
      rw (short_kind e)
      ((omega arith, omega arith, omega arith, record { behind = omega arith; within = omega arith; bands = omega arith; inside = omega arith; room = λ n u. omega arith }))
