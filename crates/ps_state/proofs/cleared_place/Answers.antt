-- `ps_state::cleared_place` meets its contract: each branch is a case of the definition. Assumes nothing.
use borrow.Author.Rules.{rules}
use Rattle.ps_state.proofs.cleared_place.Goals as goal

pub returns-then-cued : goal.returns-then-cued
returns-then-cued c = rw (c.reset_from.ensures, c.if-cued.true)
