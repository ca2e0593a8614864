-- §8.6.4.5.2, §8.6.4.6 and §8.6.4.7: the all-pass channels of a frame, from hybrid samples, the input's rows, ducking factors and coefficients at the
-- borders to the QMF rows of left and right. The lists are those of ps_hybrid_analysis, ps_decorr_allpass, ps_decorr_transient and ps_stereo_borders; the
-- table of rotations is lent. Assumes nothing.
use Rattle.std.specs.Prelude.{ℕ, ◌+◌, ◌*◌, min, Bool, cond, ◌&&◌, List, eqb, leb, ltb, Float, ℤ, length, get_or}
use Rattle.std.specs.Float.{nan}
use Rattle.complex.specs.declared.Complex.{Complex}
use Rattle.complex.specs.Operations.{scaled}
use Rattle.layout.specs.declared.Layout.{Layout}
use Rattle.layout.specs.Numbers.{bands_of, all_pass_of, groups_of, unsplit_from_of}
use Rattle.limits.specs.Limits as limits
use Rattle.planar.specs.Frame.{sample_in, qmf_at, qmf_rows, qmf_band_of}
use Rattle.ps_decorr_allpass.specs.Memory.{lane_of, channel_of, delays_with}
use Rattle.ps_map.specs.Bands.{band_of, conjugated_of}
use Rattle.ps_stereo_slots.specs.declared.Timing.{Timing}
use Rattle.ps_stereo_slots.specs.Slots.{borders_of, border_matrix}
use Rattle.standard.specs.declared.Matrix.{Matrix}
use Rattle.standard.specs.Channel.{Channel, chain_from, channel_at, third_output}
use Rattle.standard.specs.Hybrid.{synthesised}
use Rattle.standard.specs.Interpolation.{matrix_in}
use Rattle.standard.specs.Mixing.{left_of, right_of}

module _ (l : Layout) (timing : Timing) (table : List ℤ) (samples gains rows input delays : List Float) where
  -- channel k after n slots
  unfoldable pub channel_then : ℕ → ℕ → Channel
  channel_then k n = channel_at (chain_from table l k) (channel_of timing.turn (lane_of delays k)) (λ m. sample_in l samples input m k) n

  -- d_k(n), ducked by the factor of its band
  unfoldable pub decorrelated : ℕ → ℕ → Complex
  decorrelated n k = scaled (third_output (chain_from table l k) (channel_then k n)) (get_or gains (32 * band_of l k + n) nan)

  -- band b's coefficients in slot n
  unfoldable pub matrix_then : ℕ → ℕ → Matrix
  matrix_then b n = matrix_in (borders_of timing.borders timing.count) (border_matrix rows b) n

  -- one side's hybrid sample n of channel k
  unfoldable pub side_at : (Bool → Matrix → Complex → Complex → Complex) → ℕ → ℕ → Complex
  side_at side n k = side (conjugated_of l k) (matrix_then (band_of l k) n) (sample_in l samples input n k) (decorrelated n k)

  -- a side's QMF rows: the bands of these channels are new, those above them stay
  unfoldable pub side_rows : (Bool → Matrix → Complex → Complex → Complex) → ℕ → List Float → List Float
  side_rows side slots old = qmf_rows slots (λ n q. cond (ltb q (qmf_band_of l (all_pass_of l))) (synthesised l (side_at side n) q) (qmf_at old n q))

  -- after a frame of at most 32 slots, where the outputs have exactly its rows, the input has them too and the other lists have room for the layout;
  -- nothing changes where they do not
  abbrev slots : ℕ
  slots = min timing.slots 32

  module _ (left right : List Float) where
    abbrev pub fits : Bool
    fits =
        eqb (length left) (128 * slots) && eqb (length right) (128 * slots) && leb (128 * slots) (length input)
        && leb (64 * unsplit_from_of l) (length samples) && leb (32 * bands_of l) (length gains)
        && leb (limits.course * bands_of l) (length rows) && leb (112 * groups_of l) (length delays)

    unfoldable pub left_after : List Float
    left_after = cond fits (side_rows left_of slots left) left

    unfoldable pub right_after : List Float
    right_after = cond fits (side_rows right_of slots right) right

    -- the rings go on where they were
    unfoldable pub delays_after : List Float
    delays_after = cond fits (delays_with l (timing.turn + slots) (λ k. channel_then k slots) delays) delays
