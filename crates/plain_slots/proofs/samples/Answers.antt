-- `plain_slots::samples` meets its contract: the first loop puts the split bands' channels, the second the others. Assumes nothing.
use mathlib.Core.Path.{◌≡◌, ◌∙◌}
use Prim.Native.Nat.{◌*◌, ◌<◌, ◌≤◌}
use native.Mathlib.Omega.{arith}
use lib.ListN.{length}
use Rattle.layout.specs.Numbers.{channels_of, unsplit_from_of}
use Rattle.layout.proofs.Bounds.{bounds}
use Rattle.plain_slots.proofs.Carried.{carried_none, carried_more}
use Rattle.plain_slots.proofs.Reading.{late, short_split, short_input, short_row, filled}
use Rattle.plain_slots.proofs.samples.Goals as goal
use Rattle.plain_slots.proofs.samples.Goals.{
  then-n-gt31-via-then-n-gt31,
  then-n-gt31-via-else-n-gt31+then-split-unsplit,
  then-n-gt31-via-else-n-gt31+else-split-unsplit+then-input-n,
  then-n-gt31-via-else-n-gt31+else-split-unsplit+else-input-n+then-row-channels,
}

pub returns-then-n-gt31 : goal.returns-then-n-gt31
returns-then-n-gt31 c =
    let a = c.args in
    let u = c.unsplit_from-unsplit.ensures in
    elim c.then-n-gt31.branch [
      | then-n-gt31-via-then-n-gt31 w ↦ late a.layout a.n a.split.now a.input.now a.row.now (omega (arith, w.if-n-gt31.true))
      | then-n-gt31-via-else-n-gt31+then-split-unsplit w ↦ short_split a.layout a.n a.split.now a.input.now a.row.now (omega (arith, w.if-n-gt31.false)) (rw u at w.if-split-unsplit.true)
      | then-n-gt31-via-else-n-gt31+else-split-unsplit+then-input-n w ↦ short_input a.layout a.n a.split.now a.input.now a.row.now (omega (arith, w.if-n-gt31.false)) (rw u at w.if-split-unsplit.false) w.if-input-n.true
      | then-n-gt31-via-else-n-gt31+else-split-unsplit+else-input-n+then-row-channels w ↦ short_row a.layout a.n a.split.now a.input.now a.row.now (omega (arith, w.if-n-gt31.false)) (rw u at w.if-split-unsplit.false) w.if-input-n.false (rw c.channels-channels.ensures at w.if-row-channels.true)
    ]

pub overflow_mul-unsplit : goal.overflow_mul-unsplit
overflow_mul-unsplit c = omega (arith, c.unsplit_from-unsplit.ensures, bounds c.args.layout)

pub overflow_mul-channels : goal.overflow_mul-channels
overflow_mul-channels c =
    omega (arith, c.channels-channels.ensures, (bounds c.args.layout).channels)

-- ---- the loops
pub loop-k-init : goal.loop-k-init
loop-k-init c =
    let small : c.args.n < 32 = omega (arith, c.if-n-gt31.false) in
    let known = bounds c.args.layout in
    let unsplit = c.unsplit_from-unsplit.ensures in
    let split = c.split-bands.ensures in
    let all = c.channels-channels.ensures in
    record {
      fits =
          record {
            small = small;
            runs = c.if-split-unsplit.false;
            slot = c.if-input-n.false;
            room = c.if-row-channels.false;
            few = omega (arith, all, known.channels);
            columns = omega (arith, all, unsplit, split, known.delayed, known.short, known.last);
          };
      within = omega arith;
      above = omega (arith, all, unsplit, known.passed, known.short, known.last);
      carried = carried_none _ _ _;
    }

pub cell-requires : goal.cell-requires
cell-requires c = omega (arith, c.loop-k-test.true, c.loop-k.invariant.fits)

pub put-requires : goal.put-requires
put-requires c =
    omega (arith, c.loop-k-test.true, c.loop-k.invariant.fits, c.loop-k.invariant.above, c.loop-k.invariant.carried.long)

pub loop-k-preserved : goal.loop-k-preserved
loop-k-preserved c =
    let i = c.loop-k.invariant in
    let more = c.loop-k-test.true in
    record {
      fits = i.fits;
      within = omega (arith, more);
      above = i.above;
      carried = carried_more i.carried c.cell.result c.put.ensures c.cell.ensures (omega arith) (omega (arith, more, i.above, i.fits.room));
    }

pub loop-k-2-init : goal.loop-k-2-init
loop-k-2-init c =
    let small : c.args.n < 32 = omega (arith, c.if-n-gt31.false) in
    let i = c.loop-k.invariant in
    record {
      fits =
          record {
            small = i.fits.small;
            runs = i.fits.runs;
            slot = i.fits.slot;
            room = rw i.carried.long i.fits.room;
            few = i.fits.few;
            columns = i.fits.columns;
          };
      begun = omega arith;
      within = i.above;
      carried = carried_none _ _ _;
    }

pub cell-requires-in-loop-k-2 : goal.cell-requires-in-loop-k-2
cell-requires-in-loop-k-2 c = omega (arith, c.loop-k-2-test.true, c.loop-k-2.invariant.fits, c.loop-k-2.invariant.begun)

pub put-requires-in-loop-k-2 : goal.put-requires-in-loop-k-2
put-requires-in-loop-k-2 c =
    omega (arith, c.loop-k-2-test.true, c.loop-k-2.invariant.fits, c.loop-k-2.invariant.carried.long)

pub loop-k-2-preserved : goal.loop-k-2-preserved
loop-k-2-preserved c =
    let i = c.loop-k-2.invariant in
    let more = c.loop-k-2-test.true in
    record {
      fits = i.fits;
      begun = omega (arith, i.begun);
      within = omega (arith, more);
      carried = carried_more i.carried c.cell-in-loop-k-2.result c.put-in-loop-k-2.ensures c.cell-in-loop-k-2.ensures i.begun (omega (arith, more, i.fits.room));
    }

pub shape_of-row : goal.shape_of-row
shape_of-row c = c.loop-k-2.invariant.carried.long ∙ c.loop-k.invariant.carried.long

pub returns : goal.returns
returns c =
    let small : c.args.n < 32 = omega (arith, c.if-n-gt31.false) in
    let runs_there : 64 * unsplit_from_of c.args.layout ≤ length c.args.split.now = rw c.unsplit_from-unsplit.ensures at c.if-split-unsplit.false in
    let room_there : 2 * channels_of c.args.layout ≤ length c.args.row.now = rw c.channels-channels.ensures at c.if-row-channels.false in
    let a = c.args in
    let p = c.unsplit_from-unsplit.ensures in
    let last : c.loop-k.k ≡ c.unsplit_from-unsplit.result = omega (arith, c.loop-k.invariant.within, c.loop-k-test.false) in
    let last2 : c.loop-k-2.k ≡ c.channels-channels.result = omega (arith, c.loop-k-2.invariant.within, c.loop-k-2-test.false) in
    let one = (rw (last, p) at c.loop-k.invariant.carried) in
    let two = (rw (last2, p, c.channels-channels.ensures, c.split-bands.ensures) at c.loop-k-2.invariant.carried) in
    filled a.layout a.n a.split.now a.input.now a.row.now small runs_there c.if-input-n.false room_there one two
