-- `ps_hybrid_analysis::apply` meets its contract: the taps are the filter's, and its channel's run is lent and comes back. Assumes nothing.
use Prim.Native.Nat.{◌+◌, ◌-◌, ◌*◌}
use native.Mathlib.Omega.{arith}
use Rattle.planar.specs.Cells.{cell}
use Rattle.standard.specs.Hybrid.{filtered}
use Rattle.ps_hybrid_analysis.proofs.Channels.{width, lent_long, written_added}
use Rattle.ps_hybrid_analysis.proofs.Spans.{filters_most}
use Rattle.ps_hybrid_analysis.proofs.Taps.{convolved, filtered_is}
use Rattle.ps_hybrid_analysis.proofs.apply.Goals as goal

pub taps-requires : goal.taps-requires
taps-requires c =
    omega (arith, filters_most c.args.bank.now.prototype)

pub channel-k-requires : goal.channel-k-requires
channel-k-requires c =
    (c.requires.prototype_value.1.0, rw c.requires.prototype_value.0 at c.requires.prototype_value.1.1)

pub slice_bounds-join-end : goal.slice_bounds-join-end
slice_bounds-join-end c = omega (arith, c.channel-k.ensures.1)

pub join-requires : goal.join-requires
join-requires c =
    let k = c.channel-k.result in
    lent_long k (64 * k + 64 - 64 * k) c.args.samples.now (width _ _) (omega (arith, c.channel-k.ensures.1, c.requires.room))

pub returns : goal.returns
returns c =
    let a = c.args in
    let k = c.channel-k.result in
    let taps = c.taps.new.out in
    rw (← c.channel-k.ensures.0)
    (written_added a.band.slots.count k (64 * k + 64 - 64 * k) (λ n. convolved (cell 13 taps) (cell 44 a.band.run.now) n 13)
    (filtered a.bank.now.prototype a.q (cell 44 a.band.run.now)) a.samples.now c.join.new.run (width _ _) (omega (arith, c.channel-k.ensures.1, c.requires.room))
    a.band.slots.few c.join.ensures (λ n. filtered_is a.bank.now.prototype a.q taps (cell 44 a.band.run.now) n c.taps.ensures))
