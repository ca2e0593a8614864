-- `ps_allpass_channels::allpass_channels` meets its contract: lists without room change nothing, and otherwise the frame is done. Assumes nothing.
use mathlib.Core.Path.{◌≡◌}
use mathlib.Core.Bool.{false, and-false}
use Prim.Native.Nat.{◌*◌, min}
use native.Mathlib.Omega.{arith}
use borrow.Author.Tests.{ne_eqb, lt-leb}
use lib.ListN.{length}
use Rattle.layout.specs.Numbers.{bands_of, groups_of, unsplit_from_of}
use Rattle.layout.proofs.Bounds.{bounds}
use Rattle.limits.specs.Limits as limits
use Rattle.ps_allpass_channels.specs.Channels.{fits}
use Rattle.ps_allpass_channels.specs.Slots.{Roomy}
use Rattle.ps_allpass_channels.proofs.Ending.{cut_to, unfit, done}
use Rattle.ps_allpass_channels.proofs.allpass_channels.Goals as goal
use Rattle.ps_allpass_channels.proofs.allpass_channels.Goals.{
  then-left-slots-via-then-left-slots,
  then-left-slots-via-else-left-slots+then-right-slots,
  then-left-slots-via-else-left-slots+else-right-slots+then-input-slots,
  then-left-slots-via-else-left-slots+else-right-slots+else-input-slots+then-samples-unsplit_from,
  then-left-slots-via-else-left-slots+else-right-slots+else-input-slots+else-samples-unsplit_from+then-gains-bands,
  then-left-slots-via-else-left-slots+else-right-slots+else-input-slots+else-samples-unsplit_from+else-gains-bands+then-rows-bands,
  then-left-slots-via-else-left-slots+else-right-slots+else-input-slots+else-samples-unsplit_from+else-gains-bands+else-rows-bands+then-delays-groups,
}

pub returns-then-left-slots : goal.returns-then-left-slots
returns-then-left-slots c =
    let a = c.args in
    let lacking : fits a.layout a.timing a.table.now a.samples.now a.gains.now a.rows.now a.input.now a.delays.now a.left.now a.right.now ≡ false =
    elim c.then-left-slots.branch [
      | then-left-slots-via-then-left-slots w ↦ rw (ne_eqb (length a.left.now) (128 * min a.timing.slots 32) (rw (← c.min-slots.ensures) w.if-left-slots.true))
      | then-left-slots-via-else-left-slots+then-right-slots w ↦ simp (ne_eqb (length a.right.now) (128 * min a.timing.slots 32) (rw (← c.min-slots.ensures) w.if-right-slots.true), and-false)
      | then-left-slots-via-else-left-slots+else-right-slots+then-input-slots w ↦ simp (lt-leb (128 * min a.timing.slots 32) (length a.input.now) (rw (← c.min-slots.ensures) w.if-input-slots.true), and-false)
      | then-left-slots-via-else-left-slots+else-right-slots+else-input-slots+then-samples-unsplit_from w ↦ simp (lt-leb (64 * unsplit_from_of a.layout) (length a.samples.now) (rw (← w.unsplit_from.ensures) w.if-samples-unsplit_from.true), and-false)
      | then-left-slots-via-else-left-slots+else-right-slots+else-input-slots+else-samples-unsplit_from+then-gains-bands w ↦ simp (lt-leb (32 * bands_of a.layout) (length a.gains.now) (rw (← c.bands-bands.ensures) w.if-gains-bands.true), and-false)
      | then-left-slots-via-else-left-slots+else-right-slots+else-input-slots+else-samples-unsplit_from+else-gains-bands+then-rows-bands w ↦ simp (lt-leb (limits.course * bands_of a.layout) (length a.rows.now) (rw (← c.bands-bands.ensures) w.if-rows-bands.true), and-false)
      | then-left-slots-via-else-left-slots+else-right-slots+else-input-slots+else-samples-unsplit_from+else-gains-bands+else-rows-bands+then-delays-groups w ↦ simp (lt-leb (112 * groups_of a.layout) (length a.delays.now) (rw (← w.groups.ensures) w.if-delays-groups.true), and-false)
    ] in
    let p = unfit a.layout a.timing a.table.now a.samples.now a.gains.now a.rows.now a.input.now a.delays.now a.left.now a.right.now lacking in
    record { left = p.0; right = p.1.0; delays = p.1.1 }

pub overflow_mul-unsplit_from : goal.overflow_mul-unsplit_from
overflow_mul-unsplit_from c =
    let b = bounds c.args.layout in
    record { fits = omega (arith, c.unsplit_from.ensures, b.passed, b.all_pass) }

pub overflow_mul-bands : goal.overflow_mul-bands
overflow_mul-bands c =
    record { fits = omega (arith, c.bands-bands.ensures, (bounds c.args.layout).bands) }

pub overflow_mul-groups : goal.overflow_mul-groups
overflow_mul-groups c =
    record { fits = omega (arith, c.groups.ensures, (bounds c.args.layout).groups) }

pub frame-requires : goal.frame-requires
frame-requires c =
    let a = c.args in
    let roomy : Roomy a.layout (cut_to c.min-slots.result a.timing)
    a.samples.now a.gains.now a.rows.now a.input.now a.delays.now a.left.now a.right.now = record {
      few = omega (arith, c.min-slots.ensures);
      turn = omega arith;
      samples_long = rw (← c.unsplit_from.ensures) c.if-samples-unsplit_from.false;
      gains_long = rw (← c.bands-bands.ensures) c.if-gains-bands.false;
      rows_long = rw (← c.bands-bands.ensures) c.if-rows-bands.false;
      input_long = c.if-input-slots.false;
      delays_long = rw (← c.groups.ensures) c.if-delays-groups.false;
      left_long = c.if-left-slots.false;
      right_long = c.if-right-slots.false;
    } in
    record { map_value = c.parameter_map.ensures; room = roomy }

pub returns : goal.returns
returns c =
    let a = c.args in
    let roomy : Roomy a.layout (cut_to c.min-slots.result a.timing)
    a.samples.now a.gains.now a.rows.now a.input.now a.delays.now a.left.now a.right.now = record {
      few = omega (arith, c.min-slots.ensures);
      turn = omega arith;
      samples_long = rw (← c.unsplit_from.ensures) c.if-samples-unsplit_from.false;
      gains_long = rw (← c.bands-bands.ensures) c.if-gains-bands.false;
      rows_long = rw (← c.bands-bands.ensures) c.if-rows-bands.false;
      input_long = c.if-input-slots.false;
      delays_long = rw (← c.groups.ensures) c.if-delays-groups.false;
      left_long = c.if-left-slots.false;
      right_long = c.if-right-slots.false;
    } in
    let f = c.frame.ensures in
    let p = done a.layout a.timing a.table.now a.samples.now a.gains.now a.rows.now a.input.now a.delays.now c.min-slots.result
    a.left.now a.right.now c.min-slots.ensures roomy _ _ _ (f.left, (f.right, f.delays)) in
    record { left = p.0; right = p.1.0; delays = p.1.1 }
