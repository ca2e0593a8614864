use mathlib.Core.Path.{◌≡◌}
use mathlib.Core.List.{List}
use Prim.Native.Nat.{ℕ, ◌-◌, ◌*◌, ◌≤◌, ◌<◌}
use lib.Ieee.{Float}
use lib.ListN.{length}
use Rattle.planar.specs.Frame.{sample_at}
use Rattle.ps_allpass_channels.specs.DeskNumbers.{sample_number, Put}
use Rattle.ps_allpass_channels.proofs.desks.split_desks.Given as goal

pub record Inv (end : ℕ) (samples : List Float) (n : ℕ) (desks₀ desks : List Float) (g : ℕ) : Type 0 where
  pub within : g ≤ end
  pub whole : length desks ≡ 1768
  pub laid : Put 0 (4 * g) 27 (λ j. j < 29) (λ k. sample_number (sample_at samples n k)) desks₀ desks

abbrev pub invariant-loop-g : goal.invariant-loop-g
invariant-loop-g l = Inv l.whole l.samples l.n l.initial.desks l.desks l.g

abbrev pub decreases-loop-g : goal.decreases-loop-g
decreases-loop-g l = l.whole - l.g
