-- `queue_decorr::channels::slot` meets its contract: channel after channel, each on its part of the queues. Assumes nothing.
use native.Mathlib.Omega.{arith}
use Rattle.queue_decorr.proofs.Turns.{going_none, room, lent_long, going_more, going_all}
use Rattle.queue_decorr.proofs.channels.slot.Goals as goal

pub loop-k-init : goal.loop-k-init
loop-k-init c = going_none _ _ _ _ _ c.requires c.parameter_map-map.ensures c.channels-k-end.ensures

pub channel-y-requires : goal.channel-y-requires
channel-y-requires c =
    (c.loop-k.invariant.lent.table_is, rw c.size-width.ensures (lent_long _ _ _ _ _ c.loop-k.invariant c.loop-k-test.true))

pub bounds-frame-b : goal.bounds-frame-b
bounds-frame-b c =
    let here = room _ _ _ _ _ c.loop-k.invariant c.loop-k-test.true in
    omega (arith, here.band, here.gains_room)

pub loop-k-preserved : goal.loop-k-preserved
loop-k-preserved c =
    let width = c.size-width.ensures in
    rw width
    (going_more _ _ _ _ _ c.loop-k.invariant c.loop-k-test.true c.channel-y.new.numbers c.channel-y.result c.scale-d.result
    (rw width at c.channel-y.ensures.numbers) (rw width at c.channel-y.ensures.answer) (rw c.from-b.ensures at c.scale-d.ensures))

pub returns : goal.returns
returns c = going_all _ _ _ _ _ c.loop-k.invariant c.loop-k-test.false
