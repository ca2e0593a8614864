-- The all-pass channels' bands and the plain delays' bands together are the left and right of the definitions. Assumes nothing.
use mathlib.Core.Path.{◌≡◌, refl, ap, ◌∙◌}
use mathlib.Core.Bool.{Bool, true, false, cond}
use mathlib.Core.List.{List}
use Prim.Native.Nat.{ℕ, ◌+◌, ◌-◌, ◌*◌, ◌<◌, ◌≤◌}
use native.Mathlib.Omega.{arith}
use borrow.Author.Tests.{ltb-true, ltb-false, le-ltb}
use lib.Dec.{ltb}
use lib.Ieee.{Float}
use lib.ListN.{length}
use Rattle.calls.proofs.Rows.{rows_same, synthesised_below}
use Rattle.complex.specs.declared.Complex.{Complex}
use Rattle.layout.specs.declared.Layout.{Layout}
use Rattle.layout.specs.Numbers.{channels_of, all_pass_of, split_of, unsplit_from_of}
use Rattle.layout.proofs.Bounds.{bounds}
use Rattle.planar.specs.Frame.{qmf_at, qmf_rows, qmf_band_of}
use Rattle.planar.proofs.Rows.{qmf_at_lem, rows_length}
use Rattle.ps_allpass_channels.specs.Channels as chains
use Rattle.ps_delay_channels.specs.Channels as delayed
use Rattle.ps_map.specs.Bands.{band_of, conjugated_of}
use Rattle.ps_stereo_slots.specs.declared.Timing.{Timing}
use Rattle.standard.specs.declared.Matrix.{Matrix}
use Rattle.standard.specs.Channel.{rotations_of}
use Rattle.standard.specs.Core.{Frame, Core, decorrelated, matrix_then, left_at, right_at}
use Rattle.standard.specs.Hybrid.{synthesised}
use Rattle.standard.specs.Mixing.{left_of, right_of}
use Rattle.ps_decoder.proofs.Flat.{Flat, timing_of}
use Rattle.ps_decoder.proofs.Chains.{low_at, chain_side, chains_left_lem, chains_right_lem}
use Rattle.ps_decoder.proofs.Delays.{high_at, delay_side, delays_left, delays_right}

-- a QMF band is below the plain delays', or one of them
low_band : (l : Layout) (q : ℕ) → q < qmf_band_of l (all_pass_of l) → q + unsplit_from_of l - split_of l < all_pass_of l
low_band l q u = let b = bounds l in omega arith

high_band : (l : Layout) (q : ℕ) → qmf_band_of l (all_pass_of l) ≤ q → q < 64
    → (all_pass_of l ≤ q + unsplit_from_of l - split_of l) × ((q + unsplit_from_of l - split_of l < channels_of l) × (split_of l ≤ q))
high_band l q u h = let b = bounds l in (omega arith, (omega arith, omega arith))

module _ {f : Frame} {s : Core} {places : List ℕ} {count turn : ℕ} {samples input gains rows delays plain : List Float}
    (flat : Flat f s places count turn samples input gains rows delays plain) where
  abbrev l : Layout
  l = f.head.layout

  abbrev slots : ℕ
  slots = f.head.slots

  abbrev timing : Timing
  timing = timing_of f places count turn

  -- a side of the definitions
  abbrev side_of : (Bool → Matrix → Complex → Complex → Complex) → ℕ → ℕ → Complex
  side_of side n k = side (conjugated_of l k) (matrix_then f s (band_of l k) n) (f.sample n k) (decorrelated f s n k)

  -- the low bands, and the high ones over them
  whole : (side : Bool → Matrix → Complex → Complex → Complex) (old : List Float)
      → qmf_rows slots (high_at flat side (qmf_rows slots (low_at flat side old))) ≡ qmf_rows slots (λ n q. synthesised l (side_of side n) q)
  unfolding synthesised
  whole side old =
      rows_same slots (high_at flat side (qmf_rows slots (low_at flat side old))) (λ n q. synthesised l (side_of side n) q)
      (λ n q u h. go n q u h (ltb q (qmf_band_of l (all_pass_of l))) refl)
    where
      go : (n q : ℕ) → n < slots → q < 64 → (t : Bool) → ltb q (qmf_band_of l (all_pass_of l)) ≡ t
          → cond t (qmf_at (qmf_rows slots (low_at flat side old)) n q) (delayed.side_at l timing input gains rows plain side n (q + unsplit_from_of l - split_of l))
          ≡ synthesised l (side_of side n) q
      go n q u h true e =
          let low : q < qmf_band_of l (all_pass_of l) = ltb-true q (qmf_band_of l (all_pass_of l)) e in
          qmf_at_lem slots (low_at flat side old) n q u h
          ∙ ap (λ (t : Bool). cond t (synthesised l (chains.side_at l timing (rotations_of l) samples gains rows input delays side n) q) (qmf_at old n q)) e
          ∙ synthesised_below l (all_pass_of l) (chains.side_at l timing (rotations_of l) samples gains rows input delays side n) (side_of side n)
          (λ k v. chain_side flat side n k u v) (bounds l).passed q (low_band l q low)
      go n q u h false e =
          let high = high_band l q (ltb-false q (qmf_band_of l (all_pass_of l)) e) h in
          delay_side flat side n (q + unsplit_from_of l - split_of l) u high.0 high.1.0
          ∙ rw (le-ltb q (split_of l) high.1.1)

  module _ (left right : List Float) (left_long : length left ≡ 128 * slots) (right_long : length right ≡ 128 * slots) where
    abbrev chains_left : List Float
    chains_left = chains.left_after l timing (rotations_of l) samples gains rows input delays left right

    abbrev chains_right : List Float
    chains_right = chains.right_after l timing (rotations_of l) samples gains rows input delays left right

    left_low : chains_left ≡ qmf_rows slots (low_at flat left_of left)
    left_low = chains_left_lem flat left right left_long right_long

    right_low : chains_right ≡ qmf_rows slots (low_at flat right_of right)
    right_low = chains_right_lem flat left right left_long right_long

    pub chains_left_long : length chains_left ≡ 128 * slots
    chains_left_long = ap (λ (t : List Float). length t) left_low ∙ rows_length slots (low_at flat left_of left)

    pub chains_right_long : length chains_right ≡ 128 * slots
    chains_right_long = ap (λ (t : List Float). length t) right_low ∙ rows_length slots (low_at flat right_of right)

    pub left_after_lem : delayed.left_after l timing input gains rows plain chains_left chains_right ≡ qmf_rows slots (λ n q. synthesised l (left_at f s n) q)
    unfolding left_at
    left_after_lem =
        delays_left flat chains_left chains_right chains_left_long chains_right_long
        ∙ ap (λ (old : List Float). qmf_rows slots (high_at flat left_of old)) left_low
        ∙ whole left_of left

    pub right_after_lem : delayed.right_after l timing input gains rows plain chains_left chains_right ≡ qmf_rows slots (λ n q. synthesised l (right_at f s n) q)
    unfolding right_at
    right_after_lem =
        delays_right flat chains_left chains_right chains_left_long chains_right_long
        ∙ ap (λ (old : List Float). qmf_rows slots (high_at flat right_of old)) right_low
        ∙ whole right_of right
