-- `ps_state::fresh` meets its contract: the code's 0.0 is zero, and the parts are the crates' own fresh ones. Assumes nothing.
use borrow.Author.Rules.{rules}
use Rattle.standard.proofs.Literals.{zero_is}
use Rattle.ps_state.proofs.fresh.Goals as goal

pub returns : goal.returns
returns c = rw (c.fresh.ensures, c.fresh-2.ensures, c.fresh-3.ensures, zero_is)
