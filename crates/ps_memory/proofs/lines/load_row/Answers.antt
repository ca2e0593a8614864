-- `ps_memory::lines::load_row` meets its contract: the count and the places are read apart. Assumes nothing.
use Rattle.ps_memory.proofs.Read.{row_read}
use borrow.Author.Rules.{rules}
use Rattle.ps_memory.proofs.lines.load_row.Goals as goal

pub returns : goal.returns
returns c =
    row_read c.args.from.now _ _ c.requires c.unpack.ensures c.number.ensures
