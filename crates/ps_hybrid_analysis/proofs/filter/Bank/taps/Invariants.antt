use mathlib.Core.List.{List}
use Prim.Native.Nat.{ℕ, ◌-◌, ◌≤◌}
use lib.Ieee.{Float}
use Rattle.complex.specs.declared.Complex.{Complex}
use Rattle.standard.specs.Hybrid.{tap}
use Rattle.ps_hybrid_analysis.proofs.Runs.{Filled}
use Rattle.ps_hybrid_analysis.proofs.filter.Bank.taps.Given as goal

pub record Inv (tap : ℕ → Complex) (out₀ out : List Float) (m : ℕ) : Type 0 where
  pub within : m ≤ 13
  pub filled : Filled 13 m tap out₀ out

abbrev pub invariant-loop-m : goal.invariant-loop-m
invariant-loop-m l = Inv (tap l.self.prototype l.q) l.initial.out l.out l.m

abbrev pub decreases-loop-m : goal.decreases-loop-m
decreases-loop-m l = 13 - l.m
