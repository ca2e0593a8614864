-- `ps_map::copied` meets its contract: place i has the row's index at i, 0 past its end. Assumes nothing.
use mathlib.Core.Path.{◌∙◌}
use borrow.Author.Rules.{rules}
use lib.IntN.{pos}
use Rattle.lists.proofs.FromFn.{from_fn_is}
use Rattle.ps_map.specs.Maps.{index_at}
use Rattle.ps_map.proofs.Held.{held_places}
use Rattle.ps_map.proofs.copied.Goals as goal

pub returns : goal.returns
returns c =
    from_fn_is _ (index_at c.args.v.now) (λ i y q k. search rules) c.from_fn.result 34 c.from_fn.ensures.items ∙ held_places (pos 0) 34 c.args.v.now
