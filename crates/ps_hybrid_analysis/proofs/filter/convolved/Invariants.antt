use mathlib.Core.Path.{◌≡◌}
use Prim.Native.Nat.{ℕ, ◌-◌, ◌≤◌}
use Rattle.complex.specs.declared.Complex.{Complex}
use Rattle.planar.specs.Cells.{cell}
use Rattle.ps_hybrid_analysis.proofs.Taps.{convolved}
use Rattle.ps_hybrid_analysis.proofs.filter.convolved.Given as goal

pub record Inv (taps x : ℕ → Complex) (n : ℕ) (so_far : Complex) (m : ℕ) : Type 0 where
  pub within : m ≤ 13
  pub is : so_far ≡ convolved taps x n m

abbrev pub invariant-loop-m : goal.invariant-loop-m
invariant-loop-m l = Inv (cell 13 l.taps) (cell 44 l.band) l.n (record { re = l.re; im = l.im }) l.m

abbrev pub decreases-loop-m : goal.decreases-loop-m
decreases-loop-m l = 13 - l.m
