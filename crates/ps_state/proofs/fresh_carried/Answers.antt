-- `ps_state::fresh_carried` meets its contract: the lines are the fresh ones. Assumes nothing.
use borrow.Author.Rules.{rules}
use Rattle.ps_state.proofs.fresh_carried.Goals as goal

pub returns : goal.returns
returns c = rw c.fresh.ensures
