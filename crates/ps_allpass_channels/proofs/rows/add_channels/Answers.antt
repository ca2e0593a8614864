-- `ps_allpass_channels::rows::add_channels` meets its contract: after each turn the channels up to k are added. Assumes nothing.
use mathlib.Core.Path.{◌≡◌, ◌∙◌}
use Prim.Native.Nat.{◌+◌}
use borrow.Author.Rules.{rules}
use native.Mathlib.Omega.{arith}
use Rattle.ps_allpass_channels.specs.Desks.{standing}
use Rattle.ps_allpass_channels.proofs.Sums.{one_more}
use Rattle.ps_allpass_channels.proofs.rows.add_channels.Goals as goal

pub loop-k-init : goal.loop-k-init
loop-k-init c = record { begun = omega arith; within = search rules; so_far = λ first u e. e }

pub loop-k-preserved : goal.loop-k-preserved
loop-k-preserved c =
    let a = c.args in
    let k = c.loop-k.k in
    let i = c.loop-k.invariant in
    record {
      begun = omega (arith, i.begun);
      within = omega (arith, c.loop-k-test.true);
      so_far = λ first u e.
          c.add-sum.ensures
          ∙ one_more (standing a.desks.now a.place) a.from k (k + 1) a.start c.loop-k.sum c.side.result (omega arith) i.begun
          i.so_far c.side.ensures first u e;
    }

pub returns : goal.returns
returns c =
    let a = c.args in
    let all : c.loop-k.k ≡ a.end = omega (arith, c.loop-k.invariant.within, c.loop-k-test.false) in
    rw all at c.loop-k.invariant.so_far
