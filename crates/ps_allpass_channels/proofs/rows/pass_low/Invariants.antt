use mathlib.Core.List.{List}
use Prim.Native.Nat.{ℕ, ◌+◌, ◌-◌, ◌≤◌}
use lib.Ieee.{Float}
use Rattle.complex.specs.declared.Complex.{Complex}
use Rattle.ps_allpass_channels.specs.Desks.{standing, Rowed}
use Rattle.ps_allpass_channels.proofs.rows.pass_low.Given as goal

-- the band of a channel
abbrev pub passed : List Float → ℕ → ℕ → ℕ → ℕ → Complex
passed desks place split unsplit q = standing desks place (q + unsplit - split)

pub record Inv (value : ℕ → Complex) (split : ℕ) (row₀ row : List Float) (q : ℕ) : Type 0 where
  pub begun : split ≤ q
  pub within : q ≤ 5
  pub rowed : Rowed value split q row₀ row

abbrev pub invariant-loop-q : goal.invariant-loop-q
invariant-loop-q l = Inv (passed l.desks l.place l.split l.unsplit) l.split l.initial.row l.row l.q

abbrev pub decreases-loop-q : goal.decreases-loop-q
decreases-loop-q l = 5 - l.q
