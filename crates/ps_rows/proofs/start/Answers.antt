-- `ps_rows::start` meets its contract: zeros where the kept row has another length. Assumes nothing.
use borrow.Author.Tests.{ne_eqb}
use mathlib.Core.Path.{◌≡◌, ◌∙◌}
use mathlib.Core.Bool.{false}
use lib.Dec.{eqb}
use lib.IntN.{pos}
use Rattle.lists.proofs.Padded.{take_replicate}
use Rattle.ps_rows.proofs.start.Goals as goal

pub returns-else-from-count : goal.returns-else-from-count
returns-else-from-count c =
    let other : eqb c.args.kept.used c.args.count ≡ false = rw (← c.from.ensures) (ne_eqb _ _ c.if-from-count.false) in
    take_replicate (pos 0) c.args.count 34 c.requires ∙ simp other
