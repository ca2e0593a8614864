-- The table of coefficients keeps its rule, by one test over the whole table. Assumes nothing.
use Prim.Native.Nat.{◌^◌}
use Rattle.tables.proofs.Tests.{tested}
use Rattle.mixing_table.specs.Values.{mixing}
use Rattle.mixing_table.specs.Coefficients.{CoefficientsRuled}

pub coefficients_ruled : CoefficientsRuled
unfolding mixing
coefficients_ruled = tested mixing 736 4 (2 ^ 105) (2 ^ 54) tt
