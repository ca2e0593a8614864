-- `ps_memory::load_small` meets its contract: each part is read from its place. Assumes nothing.
use borrow.Author.Rules.{rules}
use Rattle.ps_memory.proofs.Read.{carried_read}
use Rattle.ps_memory.proofs.load_small.Goals as goal

pub returns : goal.returns
returns c =
    carried_read c.args.memory.now _ _ _ _ _ _ c.requires c.slots_in.ensures c.layout_in.ensures c.flag.ensures
    c.load.ensures c.unpack.ensures c.turn_in.ensures
