use mathlib.Core.Path.{◌≡◌}
use mathlib.Core.List.{List}
use Prim.Native.Nat.{ℕ, ◌+◌, ◌-◌, ◌*◌, ◌≤◌, ◌<◌}
use lib.Ieee.{Float, nan}
use lib.ListN.{length, get_or}
use Rattle.ps_allpass_channels.specs.DeskNumbers.{Put}
use Rattle.ps_allpass_channels.proofs.desks.enter_ducks.Given as goal

abbrev pub duck_of : List ℕ → List Float → ℕ → ℕ → ℕ → Float
duck_of map gains n k _ = get_or gains (32 * get_or map k 0 + n) nan

pub record Inv (map : List ℕ) (gains : List Float) (n end : ℕ) (desks₀ desks : List Float) (g : ℕ) : Type 0 where
  pub within : g ≤ end
  pub few : end ≤ 13
  pub whole : length desks ≡ 1768
  pub room : (k : ℕ) → 32 * get_or map k 0 + 32 ≤ length gains
  pub laid : Put 0 (4 * g) 29 (λ j. j < 30) (duck_of map gains n) desks₀ desks

abbrev pub invariant-loop-g : goal.invariant-loop-g
invariant-loop-g l = Inv l.map l.gains l.n l.g-end l.initial.desks l.desks l.g

abbrev pub decreases-loop-g : goal.decreases-loop-g
decreases-loop-g l = l.g-end - l.g
