-- `ps_memory::load` meets its contract: the length is the test. Assumes nothing.
use borrow.Author.Tests.{eq-eqb, ne_eqb}
use borrow.Author.Rules.{rules}
use Rattle.ps_memory.specs.Place.{loaded_from}
use Rattle.ps_memory.proofs.load.Goals as goal

pub returns-then-memory-ne-NUMBERS : goal.returns-then-memory-ne-NUMBERS
unfolding loaded_from
returns-then-memory-ne-NUMBERS c = rw (ne_eqb _ _ c.if-memory-ne-NUMBERS.true, c.fresh_carried.ensures)

pub returns : goal.returns
unfolding loaded_from
returns c = rw (eq-eqb _ _ c.if-memory-ne-NUMBERS.false, c.load_small.ensures)
