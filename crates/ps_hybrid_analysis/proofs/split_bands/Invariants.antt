use mathlib.Core.Path.{◌≡◌}
use mathlib.Core.List.{List}
use Prim.Native.Nat.{ℕ, ◌+◌, ◌-◌, ◌*◌, ◌≤◌}
use lib.Ieee.{Float}
use lib.ListN.{length}
use Rattle.layout.specs.declared.Layout.{Layout}
use Rattle.lists.proofs.Rows.{Rowed}
use Rattle.planar.specs.Cells.{planar}
use Rattle.layout.specs.Numbers.{first_channel_of}
use Rattle.standard.specs.Hybrid.{hybrid}
use Rattle.ps_hybrid_analysis.specs.Analysis.{slot_at}
use Rattle.ps_hybrid_analysis.specs.Stages.{Written}
use Rattle.ps_hybrid_analysis.proofs.split_bands.Given as goal

pub record Inv (l : Layout) (input : List Float) (slots split : ℕ) (history₀ history samples₀ samples : List Float) (p : ℕ) : Type 0 where
  pub within : p ≤ split
  pub kept : Rowed (λ b. planar 6 (λ j. slot_at l history₀ input b (slots + j))) p (12 * p) history₀ history
  pub long : length history ≡ length history₀
  pub written : Written slots 0 (first_channel_of l p) (λ k n. hybrid l (slot_at l history₀ input) n k) samples₀ samples

abbrev pub invariant-loop-p : goal.invariant-loop-p
invariant-loop-p l = Inv l.layout l.input l.slots.count l.split l.initial.history l.history l.initial.samples l.samples l.p

abbrev pub decreases-loop-p : goal.decreases-loop-p
decreases-loop-p l = l.split - l.p
