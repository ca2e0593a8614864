-- §8.6.4.6.3.2: φ = ∠(¼ exp(j φ(e-2)) + ½ exp(j φ(e-1)) + exp(j φ(e))) on the ladder of Table 8.31, an index being an eighth of a turn;
-- and the table's rule. Assumes nothing.
use Rattle.std.specs.Prelude.{List, ℕ, ◌+◌, ◌*◌, ◌%◌, ◌^◌, ℤ}
use Rattle.complex.specs.declared.Complex.{Complex}
use Rattle.fixed.specs.Real.{pair_at}
use Rattle.tables.specs.Rule.{Ruled}
use Rattle.phase_table.specs.Values.{phase}

-- where the pair of three indices starts; an index counts around the circle
abbrev pub direction_place : ℕ → ℕ → ℕ → ℕ
direction_place oldest previous current = 2 * (((oldest % 8) * 8 + previous % 8) * 8 + current % 8)

abbrev pub direction_at : List ℤ → ℕ → ℕ → ℕ → Complex
direction_at table oldest previous current = pair_at table (direction_place oldest previous current)

-- each pair's squares sum to 2^104 within 2^53
abbrev pub DirectionsRuled : Type 0
DirectionsRuled = Ruled phase 512 2 (2 ^ 104) (2 ^ 53)
