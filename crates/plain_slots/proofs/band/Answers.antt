-- `plain_slots::band` meets its contract: the map's place is read. Assumes nothing.
use mathlib.Core.Path.{ap, ◌∙◌}
use mathlib.Core.List.{List}
use Prim.Native.Nat.{ℕ}
use lib.ListN.{get_or}
use Rattle.plain_slots.proofs.band.Goals as goal

pub returns : goal.returns
returns c = c.from.ensures ∙ ap (λ (map : List ℕ). get_or map c.args.k 0) c.parameter_map.ensures
