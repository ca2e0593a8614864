use mathlib.Core.Path.{◌≡◌}
use mathlib.Core.List.{List}
use Prim.Native.Nat.{ℕ, ◌-◌, ◌≤◌, ◌<◌}
use lib.Ieee.{Float}
use lib.ListN.{length}
use Rattle.planar.specs.Frame.{sample_at}
use Rattle.ps_allpass_channels.specs.DeskNumbers.{sample_number, Put}
use Rattle.ps_allpass_channels.proofs.desks.split_rest.Given as goal

pub record Inv (first unsplit : ℕ) (samples : List Float) (n : ℕ) (desks₀ desks : List Float) (k : ℕ) : Type 0 where
  pub from : first ≤ k
  pub within : k ≤ unsplit
  pub whole : length desks ≡ 1768
  pub laid : Put first k 27 (λ j. j < 29) (λ c. sample_number (sample_at samples n c)) desks₀ desks

abbrev pub invariant-loop-k : goal.invariant-loop-k
invariant-loop-k l = Inv l.first l.unsplit l.samples l.n l.initial.desks l.desks l.k

abbrev pub decreases-loop-k : goal.decreases-loop-k
decreases-loop-k l = l.unsplit - l.k
