use mathlib.Core.Path.{◌≡◌}
use mathlib.Core.List.{List}
use Prim.Native.Nat.{ℕ, ◌+◌, ◌-◌, ◌*◌, ◌≤◌, ◌<◌}
use lib.Ieee.{Float}
use lib.ListN.{length}
use Rattle.planar.specs.Frame.{qmf_at}
use Rattle.ps_allpass_channels.specs.DeskNumbers.{sample_number, Put}
use Rattle.ps_allpass_channels.proofs.desks.enter_high.Given as goal

abbrev pub sample_of : List Float → ℕ → ℕ → ℕ → ℕ → Float
sample_of input n first k = sample_number (qmf_at input n (k + 5 - 4 * first))

pub record Inv (first : ℕ) (input : List Float) (n : ℕ) (desks₀ desks : List Float) (i : ℕ) : Type 0 where
  pub within : i ≤ 5
  pub whole : length desks ≡ 1768
  pub laid : Put (4 * first) (4 * (first + i)) 27 (λ j. j < 29) (sample_of input n first) desks₀ desks

abbrev pub invariant-loop-i : goal.invariant-loop-i
invariant-loop-i l = Inv l.first l.input l.n l.initial.desks l.desks l.i

abbrev pub decreases-loop-i : goal.decreases-loop-i
decreases-loop-i l = 5 - l.i
