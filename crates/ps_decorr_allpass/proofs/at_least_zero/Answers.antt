-- `ps_decorr_allpass::at_least_zero` meets its contract: the test picks the case. Assumes nothing.
use Rattle.standard.proofs.Literals.{zero_is}
use Rattle.ps_decorr_allpass.proofs.at_least_zero.Goals as goal

pub returns-then-x : goal.returns-then-x
returns-then-x c = rw (zero_is, rw zero_is at c.if-x.true)

pub returns-else-x : goal.returns-else-x
returns-else-x c = rw (rw zero_is at c.if-x.false)
