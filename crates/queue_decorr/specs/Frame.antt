-- A frame through the queues, from a state that is ready: §8.6.4.5 for every channel. Assumes nothing.
use Rattle.std.specs.Prelude.{ℕ, suc, ◌*◌, Bool, cond, ◌&&◌, List, ◌++◌, leb, Float, length, drop}
use Rattle.complex.specs.declared.Complex.{Complex}
use Rattle.complex.specs.Operations.{scaled}
use Rattle.layout.specs.declared.Layout.{Layout}
use Rattle.layout.specs.Numbers.{channels_of, unsplit_from_of}
use Rattle.lists.specs.Part.{part}
use Rattle.lists.specs.Rows.{rows}
use Rattle.planar.specs.Frame.{sample_in}
use Rattle.plain_slots.specs.Rows.{row_with}
use Rattle.ps_decorr_transient.specs.Gains.{detectors_with, detector_then}
use Rattle.ps_map.specs.Bands.{band_of}
use Rattle.standard.specs.Channel.{Channel, chain_of, channel_at, channel_output}
use Rattle.standard.specs.Detector.{ducking}
use Rattle.queue_decorr.specs.declared.QueueDecorr.{QueueDecorr}
use Rattle.queue_decorr.specs.Queues.{channel_in, queues_with}

-- a row of 91 complex numbers for each slot; places that the layout lacks stay, and so does what lies behind the rows
unfoldable pub rows_with : Layout → (ℕ → ℕ → Complex) → ℕ → List Float → List Float
rows_with l d slots old = rows (λ n. row_with (channels_of l) (d n) (part (182 * n) 182 old)) slots ++ drop (182 * slots) old

-- channel k after n slots
unfoldable pub channel_then : Layout → List Float → List Float → List Float → ℕ → ℕ → Channel
channel_then l queues split input k n = channel_at (chain_of l k) (channel_in l queues k) (λ m. sample_in l split input m k) n

module _ (s : QueueDecorr) (split input : List Float) where
  -- d_k(n), after ducking
  unfoldable pub output_of : ℕ → ℕ → Complex
  output_of n k =
      scaled (channel_output s.layout k (channel_then s.layout s.queues split input k n))
      (ducking (detector_then s.layout s.detectors split input (band_of s.layout k) (suc n)))

  module _ (out : List Float) where
    -- the input and the output have a row for each slot, and the samples of the split bands are there; nothing changes where they do not
    abbrev pub enough : ℕ → Bool
    enough slots = leb (128 * slots) (length input) && leb (64 * unsplit_from_of s.layout) (length split) && leb (182 * slots) (length out)

    unfoldable pub out_after : ℕ → List Float
    out_after slots = cond (enough slots) (rows_with s.layout output_of slots out) out

    unfoldable pub state_after : ℕ → QueueDecorr
    state_after slots =
        cond (enough slots)
        (record {
          layout = s.layout;
          cued = s.cued;
          queues = queues_with s.layout (λ k. channel_then s.layout s.queues split input k slots) s.queues;
          detectors = detectors_with s.layout (λ b. detector_then s.layout s.detectors split input b slots) s.detectors;
        })
        s
