-- The queues beside the definitions and beside the decoder: the state that a core or a decoder's numbers have in queues, and runs of frames and of calls.
-- Assumes nothing.
use Rattle.std.specs.Prelude.{ℕ, zero, suc, ◌+◌, ◌*◌, ◌<◌, ◌≤◌, Bool, not, cond, List, ◌≡◌, eqb, Float, length, replicate}
use Rattle.answer.specs.Number.{number_of}
use Rattle.calls.specs.Call.{Call, fresh, answer}
use Rattle.calls.specs.Run.{carried, frame_at}
use Rattle.complex.specs.declared.Complex.{Complex}
use Rattle.layout.specs.Numbers.{channels_of, unsplit_from_of}
use Rattle.planar.specs.Cells.{cell}
use Rattle.planar.specs.Frame.{sample_in}
use Rattle.ps_decorr_transient.specs.Gains.{detectors_with}
use Rattle.ps_map.specs.Bands.{band_of, conjugated_of}
use Rattle.ps_state.specs.declared.PsDecoder.{PsDecoder}
use Rattle.ps_state.specs.State.{core_of}
use Rattle.standard.specs.declared.Matrix.{Matrix}
use Rattle.standard.specs.Core.{Core, Frame, Head, ready, matrix_then}
use Rattle.standard.specs.Numbers as numbers
use Rattle.queue_decorr.specs.declared.QueueDecorr.{QueueDecorr}
use Rattle.queue_decorr.specs.Queues.{queues_with}
use Rattle.queue_decorr.specs.State.{fresh_queues, queues_ready}
use Rattle.queue_decorr.specs.Frame.{state_after, out_after}

-- ---- one state in two forms

-- every history in its queues, newest first, and the detectors as they are; places that the layout lacks are 0
unfoldable pub queues_of : Core → QueueDecorr
queues_of s =
    record {
      layout = s.layout;
      cued = s.cued;
      queues = queues_with s.layout s.channel (replicate 1794 numbers.zero);
      detectors = detectors_with s.layout s.detector (replicate 102 numbers.zero);
    }

-- the numbers that a decoder carries, with each of its rings turned around
abbrev pub mirrored : PsDecoder → QueueDecorr
mirrored s = queues_of (core_of s)

-- a state that has taken a frame's flag whether it has a line: the queues take it when they are made ready, the definitions after the frame
abbrev pub flagged : Bool → QueueDecorr → QueueDecorr
flagged cued s = record { layout = s.layout; cued = cued; queues = s.queues; detectors = s.detectors }

-- ---- a frame

-- lists that hold a frame's hybrid samples
pub record Holds (f : Frame) (split input : List Float) : Type 0 where
  pub slots : f.head.slots ≤ 32
  pub split_long : 64 * unsplit_from_of f.head.layout ≤ length split
  pub input_long : 128 * f.head.slots ≤ length input
  pub samples : (n k : ℕ) → n < f.head.slots → k < channels_of f.head.layout → sample_in f.head.layout split input n k ≡ f.sample n k

-- room for the rows of 32 slots
abbrev blank : List Float
blank = replicate 5824 numbers.zero

abbrev pub ready_for : Head → QueueDecorr → QueueDecorr
ready_for head s = queues_ready head.layout head.edge (not head.empty) s

-- the state after a frame, and the de-correlated sample of channel k in slot n as it is written
unfoldable pub queues_after : Frame → List Float → List Float → QueueDecorr → QueueDecorr
queues_after f split input s = state_after (ready_for f.head s) split input blank f.head.slots

unfoldable pub written_at : Frame → List Float → List Float → QueueDecorr → ℕ → ℕ → Complex
written_at f split input s n k = cell 1 (out_after (ready_for f.head s) split input blank f.head.slots) (182 * n + 2 * k)

-- ---- a run of frames from fresh, each with the lists that hold its samples
module _ (f : ℕ → Frame) (split input : ℕ → List Float) where
  unfoldable pub queues_before : ℕ → QueueDecorr
  queues_before zero = fresh_queues
  queues_before (suc i) = queues_after (f i) (split i) (input i) (queues_before i)

  abbrev pub output_at : ℕ → ℕ → ℕ → Complex
  output_at i n k = written_at (f i) (split i) (input i) (queues_before i) n k

-- ---- a run of the decoder's calls: the queues follow those that are accepted
module _ (asked : ℕ) (c : ℕ → Call) (split : ℕ → List Float) where
  unfoldable pub queues_at : ℕ → QueueDecorr
  queues_at zero = fresh_queues
  queues_at (suc i) =
      cond (eqb (number_of (answer (carried (fresh asked) c i) (c i))) 0) (queues_after (frame_at (fresh asked) c i) (split i) (c i).input (queues_at i)) (queues_at i)

  abbrev pub heard_at : ℕ → ℕ → ℕ → Complex
  heard_at i n k = written_at (frame_at (fresh asked) c i) (split i) (c i).input (queues_at i) n k

  -- a side of call i, mixed from what the queues wrote
  abbrev pub mixed_at : (Bool → Matrix → Complex → Complex → Complex) → ℕ → ℕ → ℕ → Complex
  mixed_at side i n k =
      let g = frame_at (fresh asked) c i in
      side (conjugated_of g.head.layout k) (matrix_then g (ready g.head (carried (fresh asked) c i).core) (band_of g.head.layout k) n) (g.sample n k) (heard_at i n k)
