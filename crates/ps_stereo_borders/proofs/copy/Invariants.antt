use mathlib.Core.Path.{◌≡◌}
use mathlib.Core.List.{List}
use Prim.Native.Nat.{ℕ, ◌+◌, ◌*◌, ◌-◌, ◌≤◌}
use lib.Ieee.{Float}
use lib.ListN.{length}
use Rattle.lists.specs.Part.{part, put}
use Rattle.lists.proofs.Rows.{Rowed}
use Rattle.ps_stereo_borders.specs.Steps.{Room}
use Rattle.ps_stereo_borders.proofs.copy.Given as goal

pub record Inv (bands : ℕ) (from : List Float) (run at : ℕ) (to₀ : List Float) (wide : ℕ) (to : List Float) (b : ℕ) : Type 0 where
  pub room : Room bands run at wide (length from) (length to₀)
  pub within : b ≤ bands
  pub written : Rowed (λ b. put 0 8 (part (wide * b) wide to₀) (part (run * b + at) 8 from)) b (wide * b) to₀ to
  pub long : length to ≡ length to₀

abbrev pub invariant-loop-b : goal.invariant-loop-b
invariant-loop-b l = Inv l.bands l.from l.run l.at l.initial.to l.wide l.to l.b

abbrev pub decreases-loop-b : goal.decreases-loop-b
decreases-loop-b l = l.bands - l.b
