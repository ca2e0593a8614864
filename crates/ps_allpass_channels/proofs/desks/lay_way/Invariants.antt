use mathlib.Core.Path.{◌≡◌}
use mathlib.Core.List.{List}
use Prim.Native.Nat.{ℕ, ◌+◌, ◌-◌, ◌%◌, ◌≤◌, ◌<◌}
use lib.Ieee.{Float}
use lib.ListN.{length}
use Rattle.ps_allpass_channels.specs.DeskNumbers.{Put}
use Rattle.ps_allpass_channels.proofs.DeskReads.{way_number}
use Rattle.ps_allpass_channels.proofs.desks.lay_way.Given as goal

-- after c turns: c coefficients and as many gains
abbrev pub After : ℕ → ℕ → Type 0
After c j = (j < 27) × ((j - 11) % 8 < c)

pub record Inv (rows : List Float) (from to k : ℕ) (desks₀ desks : List Float) (c : ℕ) : Type 0 where
  pub within : c ≤ 8
  pub whole : length desks ≡ 1768
  pub laid : Put k (k + 1) 11 (After c) (λ _. way_number rows from to) desks₀ desks

abbrev pub invariant-loop-c : goal.invariant-loop-c
invariant-loop-c l = Inv l.rows l.from l.to l.k l.initial.desks l.desks l.c

abbrev pub decreases-loop-c : goal.decreases-loop-c
decreases-loop-c l = 8 - l.c
