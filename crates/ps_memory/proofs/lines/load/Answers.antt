-- `ps_memory::lines::load` meets its contract: the flag and the rows are read one after the other. Assumes nothing.
use borrow.Author.Rules.{rules}
use Rattle.ps_memory.proofs.Read.{lines_read}
use Rattle.ps_memory.proofs.lines.load.Goals as goal

pub returns : goal.returns
returns c =
    lines_read c.args.from.now _ _ _ _ _ c.flag.ensures c.load_row.ensures c.load_row-2.ensures
    c.load_row-3.ensures c.load_row-4.ensures
