-- §8.6.4.6.2: the coefficients h11, h12, h21, h22 by mixing procedure (Ra, or Rb), IID quantiser (Table 8.25, or the fine one of Table 8.26), level
-- and coherence (Table 8.28); and the table's rule. Assumes nothing.
use Rattle.std.specs.Prelude.{Bool, cond, List, ℕ, ◌+◌, ◌*◌, ◌^◌, min, ℤ, pos, get_or}
use Rattle.fixed.specs.Real.{real}
use Rattle.tables.specs.Rule.{Ruled}
use Rattle.mixing_table.specs.declared.Coefficients.{Coefficients}
use Rattle.mixing_table.specs.Values.{mixing}

-- 15 coarse levels, then 31 fine ones; a level counts from the lowest of its quantiser, and beyond the last it is the last
abbrev pub level_place : Bool → ℕ → ℕ
level_place fine level = cond fine (15 + min level 30) (min level 14)

-- Ra has the first 46 levels, Rb the others
abbrev pub procedure_place : Bool → ℕ
procedure_place rb = cond rb 46 0

-- where a set of four starts
abbrev pub set_place : Bool → Bool → ℕ → ℕ → ℕ
set_place rb fine level coherence = 4 * ((procedure_place rb + level_place fine level) * 8 + min coherence 7)

-- the four numbers from a place on, as floats
abbrev pub set_at : List ℤ → ℕ → Coefficients
set_at table at =
    record {
      h11 = real (get_or table at (pos 0));
      h12 = real (get_or table (at + 1) (pos 0));
      h21 = real (get_or table (at + 2) (pos 0));
      h22 = real (get_or table (at + 3) (pos 0));
    }

abbrev pub coefficients_at : List ℤ → Bool → Bool → ℕ → ℕ → Coefficients
coefficients_at table rb fine level coherence = set_at table (set_place rb fine level coherence)

-- each set's squares sum to 2^105 within 2^54
abbrev pub CoefficientsRuled : Type 0
CoefficientsRuled = Ruled mixing 736 4 (2 ^ 105) (2 ^ 54)
