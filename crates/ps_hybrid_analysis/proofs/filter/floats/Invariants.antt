use mathlib.Core.List.{List}
use Prim.Native.Nat.{ℕ, ◌-◌, ◌*◌, ◌≤◌}
use lib.Ieee.{Float}
use lib.IntN.{ℤ}
use Rattle.fixed.specs.Real.{pair_at}
use Rattle.planar.proofs.Pairs.{Paired}
use Rattle.ps_hybrid_analysis.proofs.filter.floats.Given as goal

pub record Inv (roots : List ℤ) (order : ℕ) (out₀ out : List Float) (t : ℕ) : Type 0 where
  pub within : t ≤ order
  pub paired : Paired (λ j. pair_at roots (2 * j)) t out₀ out

abbrev pub invariant-loop-t : goal.invariant-loop-t
invariant-loop-t l = Inv l.roots l.order l.initial.out l.out l.t

abbrev pub decreases-loop-t : goal.decreases-loop-t
decreases-loop-t l = l.order - l.t
