-- `ps_memory::store_small` meets its contract: the parts are stored from the last to the first. Assumes nothing.
use borrow.Author.Rules.{rules}
use Rattle.ps_memory.proofs.Laid.{small_laid}
use Rattle.ps_memory.proofs.store_small.Goals as goal

pub returns : goal.returns
returns c =
    small_laid c.args.carried c.args.to.now _ _ _ c.requires c.store_head.ensures c.store.ensures c.pack.ensures
