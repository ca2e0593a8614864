-- §8.6.4.5.2: the rotations φ_fract(k) = exp(-iπ · 0.39 · f_center(k)) and Q(k,m) = exp(-iπ · q(m) · f_center(k)), and their tables' rule.
-- Assumes nothing.
use Rattle.std.specs.Prelude.{List, ℕ, ◌+◌, ◌*◌, ◌^◌, ℤ}
use Rattle.complex.specs.declared.Complex.{Complex}
use Rattle.fixed.specs.Real.{pair_at}
use Rattle.tables.specs.Rule.{Ruled}
use Rattle.rotation_table.specs.Values.{rotation20, rotation34}

-- φ_fract(k)
abbrev pub fractional_delay : List ℤ → ℕ → Complex
fractional_delay table k = pair_at table (8 * k)

-- Q(k,m) of link m, from 0
abbrev pub link_rotation : List ℤ → ℕ → ℕ → Complex
link_rotation table k m = pair_at table (8 * k + 2 * m + 2)

-- four pairs for each channel; each pair's squares sum to 2^104 within 2^53
abbrev pub RotationsRuled : List ℤ → ℕ → Type 0
RotationsRuled table channels = Ruled table (channels * 4) 2 (2 ^ 104) (2 ^ 53)

pub record AllRotationsRuled : Type 0 where
  pub of20 : RotationsRuled rotation20 30
  pub of34 : RotationsRuled rotation34 50
