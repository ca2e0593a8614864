use mathlib.Core.Bool.{Bool}
use mathlib.Core.Path.{◌≡◌}
use mathlib.Core.List.{List}
use Prim.Native.Nat.{ℕ, ◌+◌, ◌*◌, ◌-◌, ◌≤◌}
use borrow.Author.Rules.{rules}
use native.Mathlib.Omega.{arith}
use lib.Ieee.{Float}
use lib.ListN.{length}
use Rattle.layout.specs.declared.Layout.{Layout}
use Rattle.layout.specs.Numbers.{groups_of}
use Rattle.ps_allpass_groups.proofs.More.{SoFar, none, more, all}
use Rattle.ps_allpass_groups.proofs.each.Given as goal

pub record Inv (l : Layout) (turn : ℕ) (t : Float) (held : Bool) (delays₀ desks₀ : List Float) (count : ℕ) (delays desks : List Float) (g : ℕ) : Type 0 where
  pub within : g ≤ count
  pub room : 112 * count ≤ length delays
  pub desks_room : 136 * count ≤ length desks
  pub same : count ≡ groups_of l
  pub sofar : SoFar l turn t held delays₀ desks₀ g delays desks

abbrev pub invariant-loop-g : goal.invariant-loop-g
invariant-loop-g l = Inv l.layout l.turn l.t l.held l.initial.delays l.initial.desks l.count l.delays l.desks l.g

abbrev pub decreases-loop-g : goal.decreases-loop-g
decreases-loop-g l = l.count - l.g
