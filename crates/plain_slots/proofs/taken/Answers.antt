-- `plain_slots::taken` meets its contract: each return is the case that the mark picks. Assumes nothing.
use Rattle.plain_slots.proofs.taken.Goals as goal

pub returns-then-marked : goal.returns-then-marked
returns-then-marked c = rw c.if-marked.true c.conj.ensures
