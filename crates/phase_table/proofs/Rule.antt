-- The table of directions keeps its rule, by one test over the whole table. Assumes nothing.
use Prim.Native.Nat.{◌^◌}
use Rattle.tables.proofs.Tests.{tested}
use Rattle.phase_table.specs.Values.{phase}
use Rattle.phase_table.specs.Directions.{DirectionsRuled}

pub directions_ruled : DirectionsRuled
unfolding phase
directions_ruled = tested phase 512 2 (2 ^ 104) (2 ^ 53) tt
