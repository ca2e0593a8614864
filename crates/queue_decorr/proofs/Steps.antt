-- A frame through the queues: the channels that the numbers hold are near the definitions', so that they give the same output and leave the same numbers;
-- the detectors are the same, since the samples are. Assumes nothing.
use Prim.Native.Nat.{ℕ, suc, ◌+◌, ◌*◌, ◌<◌, ◌≤◌}
use native.Mathlib.Omega.{arith}
use mathlib.Core.Path.{◌≡◌, refl, sym, ap, ap₂, ◌∙◌}
use mathlib.Core.Bool.{Bool, true, not}
use mathlib.Core.List.{List, ◌++◌}
use borrow.Author.Tests.{le-leb}
use lib.Ieee.{Float, nan}
use lib.ListN.{length, drop, length-replicate}
use lib.Seq.{drop_at}
use Rattle.calls.specs.Near.{NearChannel}
use Rattle.calls.proofs.Channels.{near_channel, near_output}
use Rattle.complex.specs.Operations.{scaled}
use Rattle.layout.specs.declared.Layout.{Layout}
use Rattle.layout.specs.Numbers.{bands_of, channels_of, unsplit_from_of}
use Rattle.lists.specs.Rows.{rows}
use Rattle.lists.proofs.Rows.{rows_same, rows_length}
use Rattle.planar.specs.Cells.{cell}
use Rattle.planar.specs.Frame.{sample_in}
use Rattle.ps_decorr_transient.specs.Gains.{detector_of, detector_numbers, detectors_with, power_at, detector_then}
use Rattle.ps_map.specs.Bands.{band_of}
use Rattle.ps_map.proofs.Bands.{band_small}
use Rattle.ps_state.proofs.Images.{laid_first, laid_at}
use Rattle.standard.specs.Channel.{chain_of}
use Rattle.standard.specs.Core as core
use Rattle.standard.specs.Core.{Core, Frame, power_then, duck, decorrelated, ready, after, next}
use Rattle.standard.specs.Detector.{Detector, detector_at, ducking}
use Rattle.standard.proofs.Frames.{channel_same, power_same, detector_same}
use Rattle.standard.proofs.Runs.{ready_layout}
use Rattle.queue_decorr.specs.declared.QueueDecorr.{QueueDecorr}
use Rattle.queue_decorr.specs.Queues.{channel_in, queues_with}
use Rattle.queue_decorr.specs.Frame.{channel_then, output_of, enough, out_after, state_after}
use Rattle.queue_decorr.specs.Run.{queues_of, flagged, Holds, ready_for, queues_after, written_at}
use Rattle.queue_decorr.proofs.Memory.{with_behind, near_with, with_same}
use Rattle.queue_decorr.proofs.Silence.{zeros}
use Rattle.queue_decorr.proofs.Same.{same_ready}
use Rattle.queue_decorr.proofs.Written.{written_is}

-- ---- detectors in a list

module _ (l : Layout) (detector : ℕ → Detector) (old : List Float) where
  detector_held : (b : ℕ) → b < bands_of l → detector_of (detectors_with l detector old) b ≡ detector b
  unfolding detectors_with
  detector_held b u =
      λ i.
      record {
        peak = laid_first 3 (bands_of l) (λ j. detector_numbers (detector j)) old (λ j. refl) b nan u (omega arith) i;
        smooth = laid_at 3 (bands_of l) (λ j. detector_numbers (detector j)) old (λ j. refl) b 1 nan u (omega arith) i;
        difference = laid_at 3 (bands_of l) (λ j. detector_numbers (detector j)) old (λ j. refl) b 2 nan u (omega arith) i;
      }

  detectors_behind : drop (3 * bands_of l) (detectors_with l detector old) ≡ drop (3 * bands_of l) old
  unfolding detectors_with
  detectors_behind =
      let numbers_at : ℕ → List Float = λ b. detector_numbers (detector b) in
      drop_at (rows numbers_at (bands_of l)) (drop (3 * bands_of l) old) (3 * bands_of l) (rows_length numbers_at 3 (bands_of l) (λ b u. refl) ∙ omega arith)

pub detectors_same : (l : Layout) (c d : ℕ → Detector) (old other : List Float) → ((b : ℕ) → b < bands_of l → c b ≡ d b) → drop (3 * bands_of l) old ≡ drop (3 * bands_of l) other
    → detectors_with l c old ≡ detectors_with l d other
unfolding detectors_with
detectors_same l c d old other same behind =
    ap₂ (λ (a b : List Float). a ++ b) (rows_same (λ b. detector_numbers (c b)) (λ b. detector_numbers (d b)) (bands_of l) (λ b u. ap detector_numbers (same b u))) behind

-- a state whose layout is known by another name
pub queues_in : (s : Core) (l : Layout) → s.layout ≡ l
    → queues_of s ≡ record { layout = l; cued = s.cued; queues = queues_with l s.channel (zeros 1794); detectors = detectors_with l s.detector (zeros 102) }
unfolding queues_of
queues_in s l e = λ i. record { layout = e i; cued = s.cued; queues = queues_with (e i) s.channel (zeros 1794); detectors = detectors_with (e i) s.detector (zeros 102) }

-- ---- within a frame, from a state of its layout

module _ (f : Frame) (split input : List Float) (holds : Holds f split input) (r : Core) where
  abbrev l : Layout
  l = f.head.layout

  abbrev queues : List Float
  queues = queues_with l r.channel (zeros 1794)

  abbrev detectors : List Float
  detectors = detectors_with l r.detector (zeros 102)

  channel_then_lem : (k n : ℕ) → k < channels_of l → n ≤ f.head.slots → NearChannel l k (channel_then l queues split input k n) (core.channel_then f r k n)
  unfolding channel_then core.channel_then
  channel_then_lem k n u h =
      rw (channel_same (chain_of l k) (channel_in l queues k) (λ m. sample_in l split input m k) (λ m. f.sample m k) n (λ m v. holds.samples m k (omega arith) u))
      (near_channel l k (chain_of l k) (channel_in l queues k) (r.channel k) (λ m. f.sample m k) n (near_with l r.channel (zeros 1794) k u))

  power_then_lem : (b m : ℕ) → m < f.head.slots → power_at l split input b m ≡ power_then f b m
  unfolding power_at power_then
  power_then_lem b m h = power_same l b (sample_in l split input m) (f.sample m) (channels_of l) (λ k w e. holds.samples m k h w)

  detector_then_lem : (b n : ℕ) → b < bands_of l → n ≤ f.head.slots → detector_then l detectors split input b n ≡ core.detector_then f r b n
  unfolding detector_then core.detector_then
  detector_then_lem b n u h =
      detector_same (detector_of detectors b) (power_at l split input b) (power_then f b) n (λ m v. power_then_lem b m (omega arith))
      ∙ ap (λ (d : Detector). detector_at d (power_then f b) n) (detector_held l r.detector (zeros 102) b u)

  -- ---- the state as the frame finds it
  module _ (flag : Bool) where
    abbrev found : QueueDecorr
    found = record { layout = l; cued = flag; queues = queues; detectors = detectors }

    found_is : r.layout ≡ l → flagged flag (queues_of r) ≡ found
    found_is e = ap (flagged flag) (queues_in r l e)

    output_same : (n k : ℕ) → n < f.head.slots → k < channels_of l → output_of found split input n k ≡ decorrelated f r n k
    unfolding output_of decorrelated duck
    output_same n k h u =
        ap₂ scaled
        (near_output l k (channel_then l queues split input k n) (core.channel_then f r k n) (channel_then_lem k n u (omega arith)))
        (ap ducking (detector_then_lem (band_of l k) (suc n) (band_small l k) (omega arith)))

    module _ (out : List Float) (room : 182 * f.head.slots ≤ length out) where
      enough_is : enough found split input out f.head.slots ≡ true
      enough_is =
          rw (
            le-leb (128 * f.head.slots) (length input) holds.input_long,
            le-leb (64 * unsplit_from_of l) (length split) holds.split_long,
            le-leb (182 * f.head.slots) (length out) room,
          )

      written_then : (n k : ℕ) → n < f.head.slots → k < channels_of l
          → cell 1 (out_after found split input out f.head.slots) (182 * n + 2 * k) ≡ decorrelated f r n k
      unfolding out_after
      written_then n k h u =
          rw enough_is (written_is l (output_of found split input) f.head.slots out room n k h u ∙ output_same n k h u)

      state_then : r.layout ≡ l → flag ≡ not f.head.empty → state_after found split input out f.head.slots ≡ queues_of (after f r)
      unfolding state_after after
      state_then e is =
          rw enough_is (λ i.
          record {
            layout = l;
            cued = is i;
            queues =
                with_same l (λ k. channel_then l queues split input k f.head.slots) (λ k. core.channel_then f r k f.head.slots) queues (zeros 1794)
                (λ k u. channel_then_lem k f.head.slots u (omega arith)) (with_behind l r.channel (zeros 1794)) i;
            detectors =
                detectors_same l (λ b. detector_then l detectors split input b f.head.slots) (λ b. core.detector_then f r b f.head.slots) detectors (zeros 102)
                (λ b u. detector_then_lem b f.head.slots u (omega arith)) (detectors_behind l r.detector (zeros 102)) i;
          })
          ∙ sym (queues_in (after f r) l e)

-- ---- a whole frame

module _ (f : Frame) (split input : List Float) (holds : Holds f split input) (s : Core) where
  abbrev start : Core
  start = ready f.head s

  abbrev line : Bool
  line = not f.head.empty

  found_ready : ready_for f.head (queues_of s) ≡ found f split input holds start line
  found_ready = same_ready f.head s ∙ found_is f split input holds start line (ready_layout f.head s)

  room : 182 * f.head.slots ≤ length (zeros 5824)
  room = rw length-replicate (omega (arith, holds.slots))

  pub same_step : queues_after f split input (queues_of s) ≡ queues_of (next s f)
  unfolding queues_after next
  same_step =
      ap (λ (q : QueueDecorr). state_after q split input (zeros 5824) f.head.slots) found_ready
      ∙ state_then f split input holds start line (zeros 5824) room (ready_layout f.head s) refl

  pub same_written : (n k : ℕ) → n < f.head.slots → k < channels_of f.head.layout → written_at f split input (queues_of s) n k ≡ decorrelated f (ready f.head s) n k
  unfolding written_at
  same_written n k h u =
      ap (λ (q : QueueDecorr). cell 1 (out_after q split input (zeros 5824) f.head.slots) (182 * n + 2 * k)) found_ready
      ∙ written_then f split input holds start line (zeros 5824) room n k h u
