use mathlib.Core.Path.{◌≡◌}
use mathlib.Core.List.{List}
use Prim.Native.Nat.{ℕ, ◌+◌, ◌-◌, ◌*◌, ◌≤◌, ◌<◌}
use lib.Ieee.{Float}
use lib.ListN.{length, get_or}
use Rattle.limits.specs.Limits as limits
use Rattle.ps_allpass_channels.specs.DeskNumbers.{Put}
use Rattle.ps_allpass_channels.proofs.DeskReads.{way_number}
use Rattle.ps_allpass_channels.proofs.desks.ways.Given as goal

abbrev pub way_in : List ℕ → List Float → ℕ → ℕ → ℕ → ℕ → Float
way_in map rows e next k = way_number rows (limits.course * get_or map k 0 + 8 * e) (limits.course * get_or map k 0 + 8 * next)

pub record Inv (map : List ℕ) (rows : List Float) (e next channels : ℕ) (desks₀ desks : List Float) (k : ℕ) : Type 0 where
  pub within : k ≤ channels
  pub few : channels ≤ 52
  pub whole : length desks ≡ 1768
  pub room : (c : ℕ) → limits.course * get_or map c 0 + limits.course ≤ length rows
  pub laid : Put 0 k 11 (λ j. j < 27) (way_in map rows e next) desks₀ desks

abbrev pub invariant-loop-k : goal.invariant-loop-k
invariant-loop-k l = Inv l.map l.rows l.e l.next l.channels l.initial.desks l.desks l.k

abbrev pub decreases-loop-k : goal.decreases-loop-k
decreases-loop-k l = l.channels - l.k
