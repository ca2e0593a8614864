-- `ps_memory::lines::store` meets its contract: the rows are stored from the last to the first, then the flag before them. Assumes nothing.
use borrow.Author.Rules.{rules}
use Rattle.ps_memory.proofs.Laid.{lines_laid}
use Rattle.ps_memory.proofs.lines.store.Goals as goal

pub returns : goal.returns
returns c =
    lines_laid c.args.lines c.args.to.now _ _ _ _ _ c.requires c.kept_flag.ensures c.store_row-4.ensures
    c.store_row-3.ensures c.store_row-2.ensures c.store_row.ensures
