-- `ps_map::doubled` meets its contract: place i has the number at i / 2. Assumes nothing.
use mathlib.Core.Path.{◌∙◌}
use Prim.Native.Nat.{◌/◌}
use borrow.Author.Rules.{rules}
use lib.IntN.{pos}
use lib.ListN.{get_or}
use Rattle.lists.proofs.FromFn.{from_fn_is}
use Rattle.ps_map.proofs.Duplicates.{doubled_places}
use Rattle.ps_map.proofs.doubled.Goals as goal

pub returns : goal.returns
returns c =
    let v = c.args.v.now in
    from_fn_is _ (λ i. get_or v (i / 2) (pos 0)) (λ i y q k. search rules) c.from_fn.result 34 c.from_fn.ensures.items ∙ doubled_places 34 v
