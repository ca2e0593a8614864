-- `ps_memory::layout_in` meets its contract: each branch is the case that the flag picks. Assumes nothing.
use borrow.Author.Rules.{rules}
use mathlib.Core.Path.{sym, ◌∙◌}
use Rattle.ps_memory.proofs.layout_in.Goals as goal

pub returns-then-flag : goal.returns-then-flag
returns-then-flag c = rw (sym c.flag.ensures ∙ c.if-flag.true)

pub returns-else-flag : goal.returns-else-flag
returns-else-flag c = rw (sym c.flag.ensures ∙ c.if-flag.false)
