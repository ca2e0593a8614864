-- `ps_allpass_channels::rows::add_desks` meets its contract: after each turn the channels of the desks up to j are added. Assumes nothing.
use mathlib.Core.Path.{◌≡◌, ◌∙◌}
use Prim.Native.Nat.{◌*◌}
use borrow.Author.Rules.{rules}
use native.Mathlib.Omega.{arith}
use Rattle.ps_allpass_channels.proofs.Sums.{desk_more}
use Rattle.ps_allpass_channels.proofs.rows.add_desks.Goals as goal

pub loop-j-init : goal.loop-j-init
loop-j-init c = record { begun = omega arith; within = search rules; so_far = λ least u e. e }

pub add_four-sum-requires : goal.add_four-sum-requires
add_four-sum-requires c =
    omega (arith, c.loop-j-test.true, c.requires)

pub loop-j-preserved : goal.loop-j-preserved
loop-j-preserved c =
    let a = c.args in
    let j = c.loop-j.j in
    let i = c.loop-j.invariant in
    record {
      begun = omega (arith, i.begun);
      within = omega (arith, c.loop-j-test.true);
      so_far = λ least u e.
          c.add_four-sum.ensures
          ∙ desk_more a.desks.now a.place j (4 * a.first) a.start c.loop-j.sum (omega (arith, i.begun)) i.so_far least u e;
    }

pub returns : goal.returns
returns c =
    let a = c.args in
    let all : c.loop-j.j ≡ a.last = omega (arith, c.loop-j.invariant.within, c.loop-j-test.false) in
    rw all at c.loop-j.invariant.so_far
