-- `ps_allpass_groups::mixing::signed` meets its contract. Assumes nothing.
use borrow.Author.Rules.{rules}
use lib.Ieee.{neg}
use Rattle.ps_allpass_groups.proofs.mixing.signed.Goals as goal

pub returns-then-marked : goal.returns-then-marked
unfolding neg
returns-then-marked c = search rules
