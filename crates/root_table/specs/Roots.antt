-- The unit root of an order: root i is exp(2πi · i / order), and i counts around the circle. Its table's rule.
-- Assumes nothing.
use Rattle.std.specs.Prelude.{List, ℕ, ◌*◌, ◌%◌, ◌^◌, ℤ}
use Rattle.complex.specs.declared.Complex.{Complex}
use Rattle.fixed.specs.Real.{pair_at}
use Rattle.tables.specs.Rule.{Ruled}
use Rattle.root_table.specs.Values.{root8, root16, root24}

-- root i of the order whose table is given
abbrev pub root_of : List ℤ → ℕ → ℕ → Complex
root_of table order i = pair_at table (2 * (i % order))

-- each pair's squares sum to 2^104 within 2^53
abbrev pub RootsRuled : List ℤ → ℕ → Type 0
RootsRuled table order = Ruled table order 2 (2 ^ 104) (2 ^ 53)

pub record AllRootsRuled : Type 0 where
  pub of8 : RootsRuled root8 8
  pub of16 : RootsRuled root16 16
  pub of24 : RootsRuled root24 24
