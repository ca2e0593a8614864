-- `queue_decorr::decorrelate` meets its contract: the factors of the frame, then its slots; nothing where a list is too short. Assumes nothing.
use mathlib.Core.Bool.{false}
use mathlib.Core.List.{List}
use mathlib.Core.Path.{◌≡◌}
use Prim.Native.Nat.{ℕ, ◌*◌, ◌≤◌, min}
use native.Mathlib.Omega.{arith}
use lib.Ieee.{Float, binary64, of_bits}
use lib.ListN.{length, replicate, length-replicate}
use Rattle.layout.specs.Numbers.{unsplit_from_of}
use Rattle.queue_decorr.specs.declared.QueueDecorr.{QueueDecorr}
use Rattle.queue_decorr.specs.Frame.{enough}
use Rattle.queue_decorr.proofs.Frames.{Room, frame_lent, out_is, state_is, same_out, same_state, short_input, short_split, short_out}
use Rattle.queue_decorr.proofs.decorrelate.Goals as goal
use Rattle.queue_decorr.proofs.decorrelate.Goals.{then-input-count-via-then-input-count, then-input-count-via-else-input-count+then-split-unsplit_from, then-input-count-via-else-input-count+else-split-unsplit_from+then-out-count}

-- the factors' list before they are there
abbrev blank_list : List Float
blank_list = replicate 1088 (of_bits binary64 0)

-- the factors of a frame have room, and they are by the slots that act
room_for : (s : QueueDecorr) (split input out : List Float) (slots : ℕ) → length s.queues ≡ 1794 → length s.detectors ≡ 102
    → 128 * min slots 32 ≤ length input → 64 * unsplit_from_of s.layout ≤ length split → 182 * min slots 32 ≤ length out
    → Room s split input out blank_list (min slots 32)
room_for s split input out slots queues detectors input_there split_there out_there =
    record {
      queues_long = queues;
      detectors_long = detectors;
      gains_long = length-replicate 1088 (of_bits binary64 0);
      few = omega arith;
      input_long = input_there;
      split_long = split_there;
      out_long = out_there;
    }

twice : (slots : ℕ) → min (min slots 32) 32 ≡ min slots 32
twice slots = omega arith

pub returns-then-input-count : goal.returns-then-input-count
returns-then-input-count c =
    let a = c.args in
    let slots = min a.slots 32 in
    let count = c.min-count.ensures in
    let short : enough a.state a.split.now a.input.now a.out.now slots ≡ false =
    elim c.then-input-count.branch [
      | then-input-count-via-then-input-count w ↦ short_input a.state a.split.now a.input.now a.out.now slots (rw count at w.if-input-count.true)
      | then-input-count-via-else-input-count+then-split-unsplit_from w ↦
          short_split a.state a.split.now a.input.now a.out.now slots (rw count at w.if-input-count.false)
          (rw w.unsplit_from.ensures at w.if-split-unsplit_from.true)
      | then-input-count-via-else-input-count+else-split-unsplit_from+then-out-count w ↦
          short_out a.state a.split.now a.input.now a.out.now slots (rw count at w.if-input-count.false)
          (rw w.unsplit_from.ensures at w.if-split-unsplit_from.false) (rw count at w.if-out-count.true)
    ] in
    record { state = same_state a.state _ _ _ _ short; out = same_out a.state _ _ _ _ short }

pub slots-requires : goal.slots-requires
slots-requires c =
    let a = c.args in
    let count = c.min-count.ensures in
    let room = room_for a.state a.split.now a.input.now a.out.now a.slots c.well_formed.0.1.1.1.1.0.1.0.1 c.well_formed.0.1.1.1.1.1.0.1.0.1
    (rw count at c.if-input-count.false) (rw c.unsplit_from.ensures at c.if-split-unsplit_from.false) (rw count at c.if-out-count.false) in
    (c.rotations.ensures, rw count (frame_lent a.state a.split.now a.input.now a.out.now blank_list (min a.slots 32) room c.duck.new.gains (rw (count, twice a.slots) at c.duck.ensures.gains)))

pub returns : goal.returns
returns c =
    let a = c.args in
    let count = c.min-count.ensures in
    let room = room_for a.state a.split.now a.input.now a.out.now a.slots c.well_formed.0.1.1.1.1.0.1.0.1 c.well_formed.0.1.1.1.1.1.0.1.0.1
    (rw count at c.if-input-count.false) (rw c.unsplit_from.ensures at c.if-split-unsplit_from.false) (rw count at c.if-out-count.false) in
    let gains_are = rw (count, twice a.slots) at c.duck.ensures.gains in
    let detectors_are = rw (count, twice a.slots) at c.duck.ensures.detectors in
    let slotted = rw count at c.slots.ensures in
    record {
      state = state_is a.state a.split.now a.input.now a.out.now blank_list (min a.slots 32) room c.duck.new.gains c.duck.new.detectors _ _ gains_are detectors_are slotted;
      out = out_is a.state a.split.now a.input.now a.out.now blank_list (min a.slots 32) room c.duck.new.gains c.duck.new.detectors _ _ gains_are detectors_are slotted;
    }
