-- `plain_slots::synthesise` meets its contract: the first loop puts the split bands' sums, the second the bands that pass unchanged. Assumes nothing.
use mathlib.Core.Path.{◌≡◌, ◌∙◌}
use Prim.Native.Nat.{◌*◌, ◌≤◌}
use native.Mathlib.Omega.{arith}
use lib.ListN.{length}
use Rattle.layout.specs.declared.Layout.{Layout}
use Rattle.layout.specs.Numbers.{channels_of}
use Rattle.layout.proofs.Bounds.{bounds}
use Rattle.plain_slots.proofs.Carried.{carried_none, carried_more}
use Rattle.plain_slots.proofs.Bands.{rising, reached, band_is, short_hybrid, short_row, together}
use Rattle.plain_slots.proofs.synthesise.Goals as goal
use Rattle.plain_slots.proofs.synthesise.Goals.{
  then-hybrid-channels-via-then-hybrid-channels,
  then-hybrid-channels-via-else-hybrid-channels+then-row-lt128,
}

pub overflow_mul-channels : goal.overflow_mul-channels
overflow_mul-channels c = omega (arith, c.channels.ensures, (bounds c.args.layout).channels)

pub returns-then-hybrid-channels : goal.returns-then-hybrid-channels
returns-then-hybrid-channels c =
    let a = c.args in
    elim c.then-hybrid-channels.branch [
      | then-hybrid-channels-via-then-hybrid-channels w ↦ short_hybrid a.layout a.hybrid.now a.row.now (rw c.channels.ensures at w.if-hybrid-channels.true)
      | then-hybrid-channels-via-else-hybrid-channels+then-row-lt128 w ↦ short_row a.layout a.hybrid.now a.row.now (rw c.channels.ensures at w.if-hybrid-channels.false) w.if-row-lt128.true
    ]

pub loop-q-init : goal.loop-q-init
loop-q-init c =
    let whole : 2 * channels_of c.args.layout ≤ length c.args.hybrid.now = rw c.channels.ensures at c.if-hybrid-channels.false in
    let known = bounds c.args.layout in
    let e = c.split-split.ensures in
    let u = c.unsplit_from-unsplit.ensures in
    record {
      fits =
          record {
            whole = omega (arith, whole, e, u, known.delayed, known.short, known.last);
            room = c.if-row-lt128.false;
            few = omega (arith, e, known.split);
            small = omega (arith, u, known.passed, known.all_pass);
          };
      split_is = e;
      unsplit_is = u;
      within = omega arith;
      carried = carried_none _ _ _;
    }

pub overflow_sub-next : goal.overflow_sub-next
overflow_sub-next c =
    let layout : Layout = c.args.layout in
    rising layout c.loop-q.q _ _ c.first_channel-from.ensures c.first_channel-next.ensures

pub added-requires : goal.added-requires
added-requires c =
    let layout : Layout = c.args.layout in
    let i = c.loop-q.invariant in
    let e = c.first_channel-from.ensures in
    let f = c.first_channel-next.ensures in
    omega (arith, rising layout c.loop-q.q _ _ e f, reached layout c.loop-q.q _ _ e f, i.unsplit_is, i.fits)

pub put-requires : goal.put-requires
put-requires c =
    let i = c.loop-q.invariant in
    omega (arith, c.loop-q-test.true, i.fits, i.carried.long)

pub loop-q-preserved : goal.loop-q-preserved
loop-q-preserved c =
    let layout : Layout = c.args.layout in
    let i = c.loop-q.invariant in
    let more = c.loop-q-test.true in
    record {
      fits = i.fits;
      split_is = i.split_is;
      unsplit_is = i.unsplit_is;
      within = omega (arith, more);
      carried =
          carried_more i.carried c.added.result c.put.ensures
          (band_is layout c.loop-q.q _ _ c.first_channel-from.ensures c.first_channel-next.ensures _ c.added.result
          (omega (arith, more, i.split_is)) c.added.ensures)
          (omega arith) (omega (arith, more, i.fits));
    }

pub loop-q-2-init : goal.loop-q-2-init
loop-q-2-init c =
    let whole : 2 * channels_of c.args.layout ≤ length c.args.hybrid.now = rw c.channels.ensures at c.if-hybrid-channels.false in
    let i = c.loop-q.invariant in
    record {
      fits = record { whole = i.fits.whole; room = rw i.carried.long i.fits.room; few = i.fits.few; small = i.fits.small };
      begun = omega arith;
      within = omega (arith, i.fits.few);
      carried = carried_none _ _ _;
    }

pub cell-requires : goal.cell-requires
cell-requires c =
    let i = c.loop-q-2.invariant in
    omega (arith, c.loop-q-2-test.true, i.fits, i.begun)

pub put-requires-in-loop-q-2 : goal.put-requires-in-loop-q-2
put-requires-in-loop-q-2 c =
    let i = c.loop-q-2.invariant in
    omega (arith, c.loop-q-2-test.true, i.fits, i.carried.long)

pub loop-q-2-preserved : goal.loop-q-2-preserved
loop-q-2-preserved c =
    let i = c.loop-q-2.invariant in
    let more = c.loop-q-2-test.true in
    record {
      fits = i.fits;
      begun = omega (arith, i.begun);
      within = omega (arith, more);
      carried = carried_more i.carried c.cell.result c.put-in-loop-q-2.ensures c.cell.ensures i.begun (omega (arith, more, i.fits.room));
    }

pub shape_of-row : goal.shape_of-row
shape_of-row c = c.loop-q-2.invariant.carried.long ∙ c.loop-q.invariant.carried.long

pub returns : goal.returns
returns c =
    let whole : 2 * channels_of c.args.layout ≤ length c.args.hybrid.now = rw c.channels.ensures at c.if-hybrid-channels.false in
    let u = c.unsplit_from-unsplit.ensures in
    let e = c.split-split.ensures in
    let a = c.args in
    let last : c.loop-q.q ≡ c.split-split.result = omega (arith, c.loop-q.invariant.within, c.loop-q-test.false) in
    let last2 : c.loop-q-2.q ≡ 64 = omega (arith, c.loop-q-2.invariant.within, c.loop-q-2-test.false) in
    let one = (rw (last, e) at c.loop-q.invariant.carried) in
    let two = (rw (last2, e, u) at c.loop-q-2.invariant.carried) in
    together a.layout a.hybrid.now a.row.now whole c.if-row-lt128.false one two
