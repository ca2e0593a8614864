-- `ps_decorr_transient::larger` meets its contract: each return is the case that the test picks. Assumes nothing.
use Rattle.ps_decorr_transient.proofs.larger.Goals as goal

pub returns-then-a-b : goal.returns-then-a-b
returns-then-a-b c = rw c.if-a-b.true

pub returns-else-a-b : goal.returns-else-a-b
returns-else-a-b c = rw c.if-a-b.false
