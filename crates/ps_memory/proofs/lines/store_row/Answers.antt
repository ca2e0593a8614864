-- `ps_memory::lines::store_row` meets its contract: the packed indices, then the count before them. Assumes nothing.
use borrow.Author.Rules.{rules}
use Rattle.ps_memory.proofs.Laid.{row_laid}
use Rattle.ps_memory.proofs.lines.store_row.Goals as goal

pub returns : goal.returns
returns c =
    row_laid c.args.row c.args.to.now _ _ c.requires c.kept_number.ensures c.pack.ensures
