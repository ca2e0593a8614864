-- §8.6.4.5.2, §8.6.4.6 and §8.6.4.7: the channels of a frame above the all-pass ones, which are QMF bands of the input and plain delays of it, from
-- ducking factors and coefficients at the borders to the QMF rows of left and right. The memory is that of ps_decorr, the other lists are those of
-- ps_decorr_transient and ps_stereo_borders. Assumes nothing.
use Rattle.std.specs.Prelude.{ℕ, ◌+◌, ◌-◌, ◌*◌, min, Bool, cond, ◌&&◌, List, eqb, leb, ltb, Float, length, get_or}
use Rattle.std.specs.Float.{nan}
use Rattle.complex.specs.declared.Complex.{Complex}
use Rattle.complex.specs.Operations.{scaled}
use Rattle.layout.specs.declared.Layout.{Layout}
use Rattle.layout.specs.Numbers.{bands_of, all_pass_of, short_delay_of, split_of, unsplit_from_of}
use Rattle.limits.specs.Limits as limits
use Rattle.planar.specs.Frame.{qmf_at, qmf_rows, qmf_band_of}
use Rattle.planar.specs.Rings.{long_past, short_past, plain_of}
use Rattle.ps_map.specs.Bands.{band_of, conjugated_of}
use Rattle.ps_stereo_slots.specs.declared.Timing.{Timing}
use Rattle.ps_stereo_slots.specs.Slots.{borders_of, border_matrix}
use Rattle.standard.specs.declared.Matrix.{Matrix}
use Rattle.standard.specs.Channel.{back, past_at}
use Rattle.standard.specs.Interpolation.{matrix_in}
use Rattle.standard.specs.Mixing.{left_of, right_of}

module _ (l : Layout) (timing : Timing) (input gains rows plain : List Float) where
  -- what came into channel k before the frame: its last 14 slots, or the last one
  abbrev pub past_of : ℕ → List Complex
  past_of k = cond (ltb k (short_delay_of l)) (long_past timing.turn plain (k - all_pass_of l)) (short_past plain (k - short_delay_of l))

  -- and after n slots of the frame
  unfoldable pub past_then : ℕ → ℕ → List Complex
  past_then k n = past_at (past_of k) (λ m. qmf_at input m (qmf_band_of l k)) n

  -- d_k(n): what came 14 slots before, or one, ducked by the factor of its band
  unfoldable pub decorrelated : ℕ → ℕ → Complex
  decorrelated n k = scaled (back (cond (ltb k (short_delay_of l)) 13 0) (past_then k n)) (get_or gains (32 * band_of l k + n) nan)

  -- band b's coefficients in slot n
  unfoldable pub matrix_then : ℕ → ℕ → Matrix
  matrix_then b n = matrix_in (borders_of timing.borders timing.count) (border_matrix rows b) n

  -- one side's sample n of channel k
  unfoldable pub side_at : (Bool → Matrix → Complex → Complex → Complex) → ℕ → ℕ → Complex
  side_at side n k = side (conjugated_of l k) (matrix_then (band_of l k) n) (qmf_at input n (qmf_band_of l k)) (decorrelated n k)

  -- a side's QMF rows: the bands of these channels are new, those below them stay
  unfoldable pub side_rows : (Bool → Matrix → Complex → Complex → Complex) → ℕ → List Float → List Float
  side_rows side slots old =
      qmf_rows slots (λ n q. cond (ltb q (qmf_band_of l (all_pass_of l))) (qmf_at old n q) (side_at side n (q + unsplit_from_of l - split_of l)))

  -- after a frame of at most 32 slots, where the outputs have exactly its rows, the input has them too and the other lists have room; nothing changes
  -- where they do not
  abbrev slots : ℕ
  slots = min timing.slots 32

  module _ (left right : List Float) where
    abbrev pub fits : Bool
    fits =
        eqb (length left) (128 * slots) && eqb (length right) (128 * slots) && leb (128 * slots) (length input)
        && leb (32 * bands_of l) (length gains) && leb (limits.course * bands_of l) (length rows) && eqb (length plain) 394

    unfoldable pub left_after : List Float
    left_after = cond fits (side_rows left_of slots left) left

    unfoldable pub right_after : List Float
    right_after = cond fits (side_rows right_of slots right) right

    -- the rings go on where they were
    unfoldable pub plain_after : List Float
    plain_after = cond fits (plain_of (timing.turn + slots) (λ j. past_then (all_pass_of l + j) slots) (λ j. past_then (short_delay_of l + j) slots)) plain
