-- `ps_allpass_groups::chain::chain` meets its contract: its cells are those of the rings' positions, and its steps those of each lane's channel. Assumes nothing.
use borrow.Author.Rules.{rules}
use native.Mathlib.Omega.{arith}
use Rattle.ps_allpass_groups.proofs.Steps.{stepped}
use Rattle.ps_allpass_groups.proofs.chain.chain.Goals as goal

pub slice_bounds-link-end-2 : goal.slice_bounds-link-end-2
slice_bounds-link-end-2 c =
    omega arith

pub at-requires-5 : goal.at-requires-5
at-requires-5 c = omega (arith, c.requires.1)

pub at-requires-6 : goal.at-requires-6
at-requires-6 c = omega (arith, c.requires.1)

pub slice_bounds-link-end-3 : goal.slice_bounds-link-end-3
slice_bounds-link-end-3 c =
    omega arith

pub at-requires-7 : goal.at-requires-7
at-requires-7 c = omega (arith, c.requires.1)

pub at-requires-8 : goal.at-requires-8
at-requires-8 c = omega (arith, c.requires.1)

pub shape_of-part : goal.shape_of-part
shape_of-part c =
    omega arith

pub returns : goal.returns
returns c =
    let a = c.args in
    stepped a.turn a.desk.now a.x a.part.now c.put.new.xs c.link-v.new.cell c.link-w.new.cell c.link.new.cell
    c.requires.0 c.put.auto.xs c.link-v.auto.cell c.link-w.auto.cell
    c.at.ensures c.at-2.ensures c.mul-u.ensures c.put.ensures
    c.at-3.ensures c.at-4.ensures (c.link-v.ensures.state, c.link-v.ensures.output)
    c.at-5.ensures c.at-6.ensures (c.link-w.ensures.state, c.link-w.ensures.output)
    c.at-7.ensures c.at-8.ensures (c.link.ensures.state, c.link.ensures.output)
