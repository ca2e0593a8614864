use Prim.Native.Nat.{ℕ, ◌-◌, ◌≤◌}
use Rattle.complex.specs.declared.Complex.{Complex}
use Rattle.ps_allpass_channels.specs.Desks.{standing}
use Rattle.ps_allpass_channels.proofs.Sums.{CarriedOn}
use Rattle.ps_allpass_channels.proofs.rows.add_channels.Given as goal

pub record Inv (y : ℕ → Complex) (from end : ℕ) (start sum : Complex) (k : ℕ) : Type 0 where
  pub begun : from ≤ k
  pub within : k ≤ end
  pub so_far : CarriedOn y from k start sum

abbrev pub invariant-loop-k : goal.invariant-loop-k
invariant-loop-k l = Inv (standing l.desks l.place) l.from l.end l.initial.sum l.sum l.k

abbrev pub decreases-loop-k : goal.decreases-loop-k
decreases-loop-k l = l.end - l.k
