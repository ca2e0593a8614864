-- `ps_allpass_channels::slot` meets its contract: samples and factors are entered, the groups go on by a slot, and both sides leave. Assumes nothing.
use native.Mathlib.Omega.{arith}
use Rattle.layout.proofs.Bounds.{bounds}
use Rattle.ps_allpass_channels.proofs.Passing.{passed}
use Rattle.ps_allpass_channels.proofs.slot.Goals as goal

pub leave-requires : goal.leave-requires
leave-requires c =
    record { n_bound = c.requires.map_value.1; n_in_bounds = c.requires.n_in_bounds }

pub returns : goal.returns
returns c =
    let a = c.args in
    let l = a.lent.layout in
    let m = a.moment in
    let e = c.enter.ensures in
    passed l a.lent.samples.now a.lent.gains.now a.lent.input.now m.n m.turn m.t m.held
    a.desks.now c.enter.new.desks _ a.delays.now _ a.left.now a.right.now _ _
    e.samples e.ducks e.chains e.from e.step
    (c.groups.ensures.roomy c.requires.delays_len (omega (arith, (bounds l).groups)))
    c.leave.ensures.left c.leave.ensures.right
