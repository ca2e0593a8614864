-- `ps_memory::start` meets its contract: the length is the test; the sound is silent, and what is small is fresh. Assumes nothing.
use borrow.Author.Tests.{eq-eqb, ne_eqb}
use borrow.Author.Rules.{rules}
use lib.Ieee.{of_bits}
use Rattle.ps_memory.specs.Place.{started_in}
use Rattle.ps_memory.proofs.Laid.{fresh_laid}
use Rattle.ps_memory.proofs.start.Goals as goal

pub returns-then-memory-eq-NUMBERS : goal.returns-then-memory-eq-NUMBERS
unfolding started_in of_bits
returns-then-memory-eq-NUMBERS c =
    let a = c.args in
    rw (eq-eqb _ _ c.if-memory-eq-NUMBERS.true)
    (fresh_laid a.asked c.fresh_carried.result a.memory.now _ _ c.if-memory-eq-NUMBERS.true c.fresh_carried.ensures c.store_small.ensures
    (c.fill.ensures.after (search rules)))

pub returns-else-memory-eq-NUMBERS : goal.returns-else-memory-eq-NUMBERS
unfolding started_in
returns-else-memory-eq-NUMBERS c = rw (ne_eqb _ _ c.if-memory-eq-NUMBERS.false)
