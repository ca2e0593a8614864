use mathlib.Core.List.{List}
use Prim.Native.Nat.{ℕ, ◌+◌, ◌-◌, ◌*◌, ◌≤◌}
use lib.Ieee.{Float}
use Rattle.planar.specs.Cells.{cell, overwritten}
use Rattle.ps_hybrid_analysis.proofs.Runs.{Filled}
use Rattle.ps_hybrid_analysis.proofs.band.ahead.Given as goal

pub record Ahead (input : List Float) (p count : ℕ) (band₀ band : List Float) (j : ℕ) : Type 0 where
  pub after : 6 ≤ j
  pub within : j ≤ count
  pub filled : Filled 44 j (overwritten 6 (cell 44 band₀) (λ i. cell 1 input (128 * (i - 6) + 2 * p))) band₀ band

abbrev pub invariant-loop-j : goal.invariant-loop-j
invariant-loop-j l = Ahead l.input l.p l.count l.initial.band l.band l.j

abbrev pub decreases-loop-j : goal.decreases-loop-j
decreases-loop-j l = l.count - l.j
