-- `ps_decorr_transient::share` meets its contract: each return is the case that the test picks. Assumes nothing.
use Rattle.standard.specs.Numbers.{◌⊘◌}
use Rattle.standard.proofs.Literals.{one_is}
use Rattle.ps_decorr_transient.proofs.share.Goals as goal

pub returns-then-power-whole : goal.returns-then-power-whole
unfolding ◌⊘◌
returns-then-power-whole c = rw c.if-power-whole.true

pub returns-else-power-whole : goal.returns-else-power-whole
returns-else-power-whole c = rw (c.if-power-whole.false, one_is)
