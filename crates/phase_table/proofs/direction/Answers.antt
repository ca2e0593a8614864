-- `phase_table::direction` meets its contract: the pair is read at the place of the three indices. Assumes nothing.
use borrow.Author.Rules.{rules}
use Rattle.phase_table.proofs.direction.Goals as goal

pub returns : goal.returns
returns c = rw (c.pair.ensures, c.place.ensures)
