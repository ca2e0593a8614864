-- `ps_allpass_groups::group` meets its contract. Assumes nothing.
use borrow.Author.Rules.{rules}
use Rattle.ps_allpass_groups.proofs.Desks.{grouped}
use Rattle.ps_allpass_groups.proofs.group.Goals as goal

pub mix-requires : goal.mix-requires
mix-requires c =
    c.requires.1

pub returns : goal.returns
returns c =
    let a = c.args in
    grouped a.turn a.t a.held a.marks a.part.now a.desk.now c.chain-d.new.part c.mix.new.desk
    c.requires.1 c.at-s.ensures c.chain-d.ensures c.at.ensures c.scale.ensures c.mix.ensures
