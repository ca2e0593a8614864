-- `ps_allpass_channels::rows::pass_low` meets its contract: after each turn the bands up to q are their channels. Assumes nothing.
use mathlib.Core.Path.{◌≡◌}
use Prim.Native.Nat.{◌+◌, ◌<◌}
use borrow.Author.Rules.{rules}
use native.Mathlib.Omega.{arith}
use Rattle.ps_allpass_channels.proofs.Leaving.{rowed_none, rowed_next}
use Rattle.ps_allpass_channels.proofs.rows.pass_low.Invariants.{passed}
use Rattle.ps_allpass_channels.proofs.rows.pass_low.Goals as goal

pub loop-q-init : goal.loop-q-init
loop-q-init c = record { begun = omega arith; within = search rules; rowed = rowed_none _ _ _ }

pub lay-requires : goal.lay-requires
lay-requires c =
    omega (arith, c.loop-q-test.true)

pub loop-q-preserved : goal.loop-q-preserved
loop-q-preserved c =
    let a = c.args in
    let q = c.loop-q.q in
    let more : q < 5 = c.loop-q-test.true in
    record {
      begun = omega (arith, c.loop-q.invariant.begun);
      within = omega (arith, more);
      rowed =
          rowed_next (passed a.desks.now a.place a.split a.unsplit) a.split q (q + 1) a.row.now c.loop-q.row c.lay.new.row
          c.side-y.result (omega arith) c.loop-q.invariant.rowed c.lay.ensures c.side-y.ensures c.loop-q.invariant.begun;
    }

pub returns : goal.returns
returns c =
    let all : c.loop-q.q ≡ 5 = omega (arith, c.loop-q.invariant.within, c.loop-q-test.false) in
    rw all at c.loop-q.invariant.rowed
