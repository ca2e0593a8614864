-- `ps_delay_channels::delay_channels` meets its contract: lists of other lengths change nothing, and otherwise the frame is done. Assumes nothing.
use native.Mathlib.Omega.{arith}
use Rattle.layout.proofs.Bounds.{bounds}
use Rattle.ps_delay_channels.proofs.Ending.{left_unfit, right_unfit, input_unfit, gains_unfit, rows_unfit, plain_unfit, fit, Outcome}
use Rattle.ps_delay_channels.proofs.delay_channels.Goals as goal
use Rattle.ps_delay_channels.proofs.delay_channels.Goals.{then-left-needed-via-then-left-needed, then-left-needed-via-else-left-needed+then-right-needed, then-left-needed-via-else-left-needed+else-right-needed+then-input-needed, then-left-needed-via-else-left-needed+else-right-needed+else-input-needed+then-gains-bands, then-left-needed-via-else-left-needed+else-right-needed+else-input-needed+else-gains-bands+then-rows-bands, then-left-needed-via-else-left-needed+else-right-needed+else-input-needed+else-gains-bands+else-rows-bands+then-plain-ne394}

pub returns-then-left-needed : goal.returns-then-left-needed
returns-then-left-needed c =
    let a = c.args in
    let within = c.min-within.ensures in
    let bands = c.bands-bands.ensures in
    let p : Outcome a.layout a.timing a.input.now a.gains.now a.rows.now a.plain.now a.left.now a.right.now a.left.now a.right.now a.plain.now =
    elim c.then-left-needed.branch [
      | then-left-needed-via-then-left-needed w ↦ left_unfit _ _ _ _ _ _ _ _ _ within _ bands w.if-left-needed.true
      | then-left-needed-via-else-left-needed+then-right-needed w ↦ right_unfit _ _ _ _ _ _ _ _ _ within _ bands w.if-left-needed.false w.if-right-needed.true
      | then-left-needed-via-else-left-needed+else-right-needed+then-input-needed w ↦ input_unfit _ _ _ _ _ _ _ _ _ within _ bands w.if-left-needed.false w.if-right-needed.false w.if-input-needed.true
      | then-left-needed-via-else-left-needed+else-right-needed+else-input-needed+then-gains-bands w ↦ gains_unfit _ _ _ _ _ _ _ _ _ within _ bands w.if-left-needed.false w.if-right-needed.false w.if-input-needed.false w.if-gains-bands.true
      | then-left-needed-via-else-left-needed+else-right-needed+else-input-needed+else-gains-bands+then-rows-bands w ↦ rows_unfit _ _ _ _ _ _ _ _ _ within _ bands w.if-left-needed.false w.if-right-needed.false w.if-input-needed.false w.if-gains-bands.false w.if-rows-bands.true
      | then-left-needed-via-else-left-needed+else-right-needed+else-input-needed+else-gains-bands+else-rows-bands+then-plain-ne394 w ↦ plain_unfit _ _ _ _ _ _ _ _ _ within _ bands w.if-left-needed.false w.if-right-needed.false w.if-input-needed.false w.if-gains-bands.false w.if-rows-bands.false w.if-plain-ne394.true
    ] in
    record { left = p.0; right = p.1.0; plain = p.1.1 }

pub overflow_mul-bands : goal.overflow_mul-bands
overflow_mul-bands c =
    let p = bounds c.args.layout in
    omega (arith, c.bands-bands.ensures)

pub frame-requires : goal.frame-requires
frame-requires c = record {
  frame = (
    record {
      few = omega (arith, c.min-within.ensures);
      input_long = c.if-input-needed.false;
      left_long = c.if-left-needed.false;
      right_long = c.if-right-needed.false;
    },
    c.if-plain-ne394.false,
  );
  layout_in_bounds = (rw (← c.bands-bands.ensures) c.if-gains-bands.false, rw (← c.bands-bands.ensures) c.if-rows-bands.false);
}

pub returns : goal.returns
returns c =
    let f = c.frame.ensures in
    let p = fit _ _ _ _ _ _ _ _ _ c.min-within.ensures _ c.bands-bands.ensures c.if-left-needed.false c.if-right-needed.false c.if-input-needed.false
    c.if-gains-bands.false c.if-rows-bands.false c.if-plain-ne394.false _ _ _ (f.left, (f.right, f.plain)) in
    record { left = p.0; right = p.1.0; plain = p.1.1 }
