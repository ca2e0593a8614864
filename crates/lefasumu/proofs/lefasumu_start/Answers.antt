-- `lefasumu::lefasumu_start` meets its contract: the length is the test. Assumes nothing.
use borrow.Author.Rules.{rules}
use Rattle.lefasumu.proofs.Calls.{start_refused, start_done}
use Rattle.lefasumu.proofs.lefasumu_start.Goals as goal

pub returns-then-memory-ne-MEMORY : goal.returns-then-memory-ne-MEMORY
returns-then-memory-ne-MEMORY c =
    start_refused c.args.memory.now c.args.slots _ c.if-memory-ne-MEMORY.true c.told.ensures

pub returns : goal.returns
returns c =
    start_done c.args.memory.now c.args.slots _ c.if-memory-ne-MEMORY.false c.told-2.ensures _ c.start.ensures
