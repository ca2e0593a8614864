-- The tables of rotations keep their rule, each by one test over the whole table. Assumes nothing.
use Prim.Native.Nat.{◌^◌}
use Rattle.tables.proofs.Tests.{tested}
use Rattle.rotation_table.specs.Values.{rotation20, rotation34}
use Rattle.rotation_table.specs.Rotations.{AllRotationsRuled}

pub rotations_ruled : AllRotationsRuled
unfolding rotation20 rotation34
rotations_ruled = record {
  of20 = tested rotation20 120 2 (2 ^ 104) (2 ^ 53) tt;
  of34 = tested rotation34 200 2 (2 ^ 104) (2 ^ 53) tt;
}
