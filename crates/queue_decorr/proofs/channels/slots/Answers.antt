-- `queue_decorr::channels::slots` meets its contract: slot after slot, each from the queues that the one before left. Assumes nothing.
use mathlib.Core.Path.{refl, ◌∙◌}
use native.Mathlib.Omega.{arith}
use Rattle.queue_decorr.proofs.Slots.{done_none, queues_kept, row_lent, samples_are, done_more, done_all}
use Rattle.queue_decorr.proofs.channels.slots.Goals as goal

pub loop-n-init : goal.loop-n-init
loop-n-init c = (done_none _ _ _ _ _ _ _ c.requires.1, refl)

pub slot-requires : goal.slot-requires
slot-requires c =
    let r = c.loop-n.invariant.0 in
    record {
      table_is = c.requires.0;
      slot = omega (arith, c.loop-n-test.true, r.lent.slots_most);
      samples_long = c.samples.auto.row ∙ c.loop-n.invariant.1;
      gains_long = r.lent.gains_long;
      queues_long = rw (queues_kept _ _ _ _ _ _ r) r.lent.queues_long;
      row_long = row_lent _ _ _ _ _ _ r c.loop-n-test.true;
    }

pub loop-n-preserved : goal.loop-n-preserved
loop-n-preserved c =
    let done = c.loop-n.invariant.0 in
    let inside = c.loop-n-test.true in
    let told = c.samples.ensures ∙ samples_are _ _ _ _ _ _ done inside c.loop-n.samples c.loop-n.invariant.1 in (
      done_more _ _ _ _ _ _ done inside c.loop-n.samples c.samples.new.row c.slot.new.queues c.slot.new.row told c.slot.ensures,
      c.samples.auto.row ∙ c.loop-n.invariant.1,
    )

pub returns : goal.returns
returns c = done_all _ _ _ _ _ _ c.loop-n.invariant.0 c.loop-n-test.false
