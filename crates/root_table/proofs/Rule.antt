-- The tables of roots keep their rule, each by one test over the whole table. Assumes nothing.
use Prim.Native.Nat.{◌^◌}
use Rattle.tables.proofs.Tests.{tested}
use Rattle.root_table.specs.Values.{root8, root16, root24}
use Rattle.root_table.specs.Roots.{AllRootsRuled}

pub roots_ruled : AllRootsRuled
unfolding root8 root16 root24
roots_ruled = record {
  of8 = tested root8 8 2 (2 ^ 104) (2 ^ 53) tt;
  of16 = tested root16 16 2 (2 ^ 104) (2 ^ 53) tt;
  of24 = tested root24 24 2 (2 ^ 104) (2 ^ 53) tt;
}
