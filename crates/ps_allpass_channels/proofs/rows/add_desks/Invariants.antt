use Prim.Native.Nat.{ℕ, ◌-◌, ◌*◌, ◌≤◌}
use Rattle.complex.specs.declared.Complex.{Complex}
use Rattle.ps_allpass_channels.specs.Desks.{standing}
use Rattle.ps_allpass_channels.proofs.Sums.{CarriedOn}
use Rattle.ps_allpass_channels.proofs.rows.add_desks.Given as goal

pub record Inv (y : ℕ → Complex) (first last : ℕ) (start sum : Complex) (j : ℕ) : Type 0 where
  pub begun : first ≤ j
  pub within : j ≤ last
  pub so_far : CarriedOn y (4 * first) (4 * j) start sum

abbrev pub invariant-loop-j : goal.invariant-loop-j
invariant-loop-j l = Inv (standing l.desks l.place) l.first l.last l.initial.sum l.sum l.j

abbrev pub decreases-loop-j : goal.decreases-loop-j
decreases-loop-j l = l.last - l.j
