use mathlib.Core.Path.{◌≡◌}
use mathlib.Core.List.{List}
use Prim.Native.Nat.{ℕ, ◌+◌, ◌-◌, ◌≤◌, ◌<◌}
use lib.Ieee.{Float}
use lib.ListN.{length}
use Rattle.planar.specs.Frame.{qmf_at}
use Rattle.ps_allpass_channels.specs.DeskNumbers.{sample_number, Put}
use Rattle.ps_allpass_channels.proofs.desks.enter_low.Given as goal

abbrev pub sample_of : List Float → ℕ → ℕ → ℕ → ℕ → ℕ → Float
sample_of input n split unsplit k = sample_number (qmf_at input n (k + split - unsplit))

pub record Inv (split unsplit end : ℕ) (input : List Float) (n : ℕ) (desks₀ desks : List Float) (k : ℕ) : Type 0 where
  pub from : unsplit ≤ k
  pub within : k ≤ end
  pub whole : length desks ≡ 1768
  pub laid : Put unsplit k 27 (λ j. j < 29) (sample_of input n split unsplit) desks₀ desks

abbrev pub invariant-loop-k : goal.invariant-loop-k
invariant-loop-k l = Inv l.split l.unsplit l.end l.input l.n l.initial.desks l.desks l.k

abbrev pub decreases-loop-k : goal.decreases-loop-k
decreases-loop-k l = l.end - l.k
