-- `ps_map::sources::brought` meets its contract: place i has the number that the i-th source of the layout makes, and what stands past a row's end where
-- there is none. Assumes nothing.
use mathlib.Core.Path.{◌∙◌}
use mathlib.Core.List.{map}
use Rattle.std.proofs.Common.{rules}
use lib.ListN.{get_or}
use Rattle.lists.proofs.FromFn.{from_fn_is}
use Rattle.ps_map.specs.Maps.{made}
use Rattle.ps_map.specs.Tables.{sources_of}
use Rattle.ps_map.proofs.Held.{held_places}
use Rattle.ps_map.proofs.sources.brought.Goals as goal

pub returns : goal.returns
returns g c =
    let by = g.T.Averaged.averages in
    let row = map (made by c.args.v.now) (sources_of c.args.layout) in
    from_fn_is _ (λ i. get_or row i by.none) (λ i y q k. search rules) c.from_fn.result 34 c.from_fn.ensures.items ∙ held_places by.none 34 row
