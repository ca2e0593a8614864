-- `ps_memory::store` meets its contract: the length is the test. Assumes nothing.
use borrow.Author.Tests.{eq-eqb, ne_eqb}
use borrow.Author.Rules.{rules}
use Rattle.ps_memory.specs.Place.{stored_in}
use Rattle.ps_memory.proofs.store.Goals as goal

pub returns-then-memory-eq-NUMBERS : goal.returns-then-memory-eq-NUMBERS
unfolding stored_in
returns-then-memory-eq-NUMBERS c = simp (eq-eqb _ _ c.if-memory-eq-NUMBERS.true, c.store_small.ensures)

pub returns-else-memory-eq-NUMBERS : goal.returns-else-memory-eq-NUMBERS
unfolding stored_in
returns-else-memory-eq-NUMBERS c = simp (ne_eqb _ _ c.if-memory-eq-NUMBERS.false)
