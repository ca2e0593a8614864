-- Where the flat lists of a frame hold its samples, ducking factors and coefficients, its all-pass channels give the left and right of the definitions,
-- and leave the memory that holds the definitions' channels. Assumes nothing.
use mathlib.Core.Path.{◌≡◌, refl, ap, ap₂, ◌∙◌}
use mathlib.Core.Bool.{Bool, true, false, cond}
use mathlib.Core.List.{List}
use Prim.Native.Nat.{ℕ, ◌+◌, ◌*◌, ◌<◌, ◌≤◌, min}
use native.Mathlib.Omega.{arith}
use borrow.Author.Tests.{lt-ltb, ltb-true, eq-eqb, le-leb}
use lib.Dec.{ltb}
use lib.Ieee.{Float, nan}
use lib.ListN.{length, get_or}
use Rattle.complex.specs.declared.Complex.{Complex}
use Rattle.complex.specs.Operations.{scaled}
use Rattle.layout.specs.declared.Layout.{Layout}
use Rattle.layout.specs.Numbers.{bands_of, all_pass_of, groups_of, unsplit_from_of}
use Rattle.limits.specs.Limits as limits
use Rattle.lists.proofs.Maps.{tabulate_same}
use Rattle.planar.specs.Frame.{sample_in, qmf_at, qmf_rows, qmf_band_of}
use Rattle.ps_allpass_channels.specs.Channels as chains
use Rattle.ps_decorr.specs.Channels.{channel_in}
use Rattle.ps_decorr_allpass.specs.Memory.{lane_of, channel_of, cell_of, owner_of, number_of, delays_with}
use Rattle.ps_map.specs.Bands.{band_of, conjugated_of}
use Rattle.ps_map.proofs.Bands.{band_small}
use Rattle.ps_stereo_slots.specs.declared.Timing.{Timing}
use Rattle.standard.specs.declared.Matrix.{Matrix}
use Rattle.standard.specs.Channel.{Channel, rotations_of, chain_of, channel_at, third_output, channel_output}
use Rattle.standard.specs.Core.{Frame, Core, channel_then, decorrelated, matrix_then}
use Rattle.standard.specs.Hybrid.{synthesised}
use Rattle.standard.specs.Numbers.{zero}
use Rattle.standard.specs.Mixing.{left_of, right_of}
use Rattle.standard.proofs.Frames.{channel_same}
use Rattle.ps_decoder.proofs.Flat.{Flat, timing_of, column_is}

module _ {f : Frame} {s : Core} {places : List ℕ} {count turn : ℕ} {samples input gains rows delays plain : List Float}
    (flat : Flat f s places count turn samples input gains rows delays plain) where
  abbrev l : Layout
  l = f.head.layout

  abbrev slots : ℕ
  slots = f.head.slots

  abbrev timing : Timing
  timing = timing_of f places count turn

  -- the memory's part of an all-pass channel
  memory_is : (k : ℕ) → k < all_pass_of l → channel_of turn (lane_of delays k) ≡ s.channel k
  unfolding channel_in
  memory_is k u = rw (lt-ltb k (all_pass_of l) u) at (flat.channel k)

  channel_then_lem : (k n : ℕ) → k < all_pass_of l → n ≤ slots → chains.channel_then l timing (rotations_of l) samples gains rows input delays k n ≡ channel_then f s k n
  unfolding chains.channel_then channel_then
  channel_then_lem k n u h =
      channel_same (chain_of l k) (channel_of turn (lane_of delays k)) (λ m. sample_in l samples input m k) (λ m. f.sample m k) n (λ m w. column_is flat m k (omega arith) u)
      ∙ ap (λ (c : Channel). channel_at (chain_of l k) c (λ m. f.sample m k) n) (memory_is k u)

  decorrelated_same : (n k : ℕ) → n < slots → k < all_pass_of l → chains.decorrelated l timing (rotations_of l) samples gains rows input delays n k ≡ decorrelated f s n k
  unfolding chains.decorrelated decorrelated channel_output
  decorrelated_same n k h u =
      rw (lt-ltb k (all_pass_of l) u)
      (ap₂ (λ (c : Channel) (factor : Float). scaled (third_output (chain_of l k) c) factor)
      (channel_then_lem k n u (omega arith)) (flat.gain (band_of l k) n (band_small l k) h))

  -- one of the two sides
  pub chain_side : (side : Bool → Matrix → Complex → Complex → Complex) (n k : ℕ) → n < slots → k < all_pass_of l
      → chains.side_at l timing (rotations_of l) samples gains rows input delays side n k
      ≡ side (conjugated_of l k) (matrix_then f s (band_of l k) n) (f.sample n k) (decorrelated f s n k)
  unfolding chains.side_at chains.matrix_then
  chain_side side n k h u =
      ap₂ (λ (m : Matrix) (x : Complex). side (conjugated_of l k) m x (chains.decorrelated l timing (rotations_of l) samples gains rows input delays n k))
      (flat.matrix (band_of l k) n (band_small l k)) (column_is flat n k h u)
      ∙ ap (side (conjugated_of l k) (matrix_then f s (band_of l k) n) (f.sample n k)) (decorrelated_same n k h u)

  -- a side with the bands of the all-pass channels
  abbrev pub low_at : (Bool → Matrix → Complex → Complex → Complex) → List Float → ℕ → ℕ → Complex
  low_at side old n q = cond (ltb q (qmf_band_of l (all_pass_of l))) (synthesised l (chains.side_at l timing (rotations_of l) samples gains rows input delays side n) q) (qmf_at old n q)

  -- ---- what they leave, where the outputs have exactly a frame's rows
  module _ (left right : List Float) (left_long : length left ≡ 128 * slots) (right_long : length right ≡ 128 * slots) where
    all_slots : min slots 32 ≡ slots
    all_slots = omega arith

    fits : chains.fits l timing (rotations_of l) samples gains rows input delays left right ≡ true
    fits =
        rw (
          eq-eqb (length left) (128 * min slots 32) (left_long ∙ ap (λ (n : ℕ). 128 * n) (omega arith)),
          eq-eqb (length right) (128 * min slots 32) (right_long ∙ ap (λ (n : ℕ). 128 * n) (omega arith)),
          le-leb (128 * min slots 32) (length input) (omega arith),
          le-leb (64 * unsplit_from_of l) (length samples) flat.samples_long,
          le-leb (32 * bands_of l) (length gains) flat.gains_long,
          le-leb (limits.course * bands_of l) (length rows) flat.rows_long,
          le-leb (112 * groups_of l) (length delays) flat.delays_long,
        )

    pub chains_left_lem : chains.left_after l timing (rotations_of l) samples gains rows input delays left right ≡ qmf_rows slots (low_at left_of left)
    unfolding chains.left_after chains.side_rows
    chains_left_lem = ap₂ (λ (t : Bool) (n : ℕ). cond t (chains.side_rows l timing (rotations_of l) samples gains rows input delays left_of n left) left) fits all_slots

    pub chains_right_lem : chains.right_after l timing (rotations_of l) samples gains rows input delays left right ≡ qmf_rows slots (low_at right_of right)
    unfolding chains.right_after chains.side_rows
    chains_right_lem = ap₂ (λ (t : Bool) (n : ℕ). cond t (chains.side_rows l timing (rotations_of l) samples gains rows input delays right_of n right) right) fits all_slots

    pub delays_after_lem : chains.delays_after l timing (rotations_of l) samples gains rows input delays left right
        ≡ delays_with l (turn + slots) (λ k. channel_then f s k slots) delays
    unfolding chains.delays_after delays_with
    delays_after_lem =
        ap₂ (λ (t : Bool) (n : ℕ). cond t (delays_with l (turn + n) (λ k. chains.channel_then l timing (rotations_of l) samples gains rows input delays k n) delays) delays) fits all_slots
        ∙ tabulate_same _ _ (length delays) (λ m u. ap (λ (x : Float). cond (ltb m (112 * groups_of l)) x (get_or delays m nan)) (kept m (ltb (owner_of m) (all_pass_of l)) refl))
      where
        kept : (m : ℕ) (t : Bool) → ltb (owner_of m) (all_pass_of l) ≡ t
            → cond t (number_of m (cell_of (turn + slots) (chains.channel_then l timing (rotations_of l) samples gains rows input delays (owner_of m) slots))) zero
            ≡ cond t (number_of m (cell_of (turn + slots) (channel_then f s (owner_of m) slots))) zero
        kept m true e = ap (λ (c : Channel). number_of m (cell_of (turn + slots) c)) (channel_then_lem (owner_of m) slots (ltb-true (owner_of m) (all_pass_of l) e) (omega arith))
        kept m false e = refl
