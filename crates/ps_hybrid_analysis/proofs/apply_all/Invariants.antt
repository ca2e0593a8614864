use mathlib.Core.List.{List}
use Prim.Native.Nat.{ℕ, suc, ◌-◌, ◌≤◌}
use lib.Ieee.{Float}
use Rattle.layout.specs.declared.Layout.{Layout}
use Rattle.planar.specs.Cells.{cell}
use Rattle.layout.specs.Numbers.{first_channel_of}
use Rattle.standard.specs.Hybrid.{joined_to}
use Rattle.ps_hybrid_analysis.specs.Stages.{Written}
use Rattle.ps_hybrid_analysis.proofs.apply_all.Given as goal

pub record Inv (l : Layout) (p : ℕ) (band : List Float) (slots count : ℕ) (old new : List Float) (q : ℕ) : Type 0 where
  pub within : q ≤ count
  pub written : Written slots (first_channel_of l p) (first_channel_of l (suc p)) (λ k n. joined_to l p (cell 44 band) n k q) old new

abbrev pub invariant-loop-q : goal.invariant-loop-q
invariant-loop-q l = Inv l.layout l.p l.band.run.now l.band.slots.count l.count l.initial.samples l.samples l.q

abbrev pub decreases-loop-q : goal.decreases-loop-q
decreases-loop-q l = l.count - l.q
