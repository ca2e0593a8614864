use mathlib.Core.List.{List}
use Prim.Native.Nat.{ℕ, ◌*◌, ◌<◌, ◌≤◌, ◌-◌}
use lib.Ieee.{Float}
use lib.ListN.{length}
use Rattle.layout.specs.declared.Layout.{Layout}
use Rattle.layout.specs.Numbers.{bands_of}
use Rattle.standard.specs.Mixing.{left_of, right_of}
use Rattle.plain_slots.proofs.Carried.{Carried}
use Rattle.plain_slots.proofs.Sides.{mixed}
use Rattle.plain_slots.proofs.mix.Given as goal

-- the lists are long enough
pub record Fitting (l : Layout) (n : ℕ) (runs samples decorrelated left right : List Float) (count : ℕ) : Type 0 where
  pub small : n < 32
  pub bands : 256 * bands_of l ≤ length runs
  pub most : bands_of l ≤ 34
  pub all : 2 * count ≤ length samples
  pub others : 2 * count ≤ length decorrelated
  pub left_room : 2 * count ≤ length left
  pub right_room : 2 * count ≤ length right
  pub few : count ≤ 91

pub record Turn (l : Layout) (n : ℕ) (runs samples decorrelated left₀ right₀ left right : List Float) (count k : ℕ) : Type 0 where
  pub fits : Fitting l n runs samples decorrelated left₀ right₀ count
  pub within : k ≤ count
  pub lefts : Carried (mixed l n runs samples decorrelated left_of) 0 k left₀ left
  pub rights : Carried (mixed l n runs samples decorrelated right_of) 0 k right₀ right

abbrev pub invariant-loop-k : goal.invariant-loop-k
invariant-loop-k l = Turn l.layout l.n l.runs l.samples l.decorrelated l.initial.left l.initial.right l.left l.right l.channels l.k

abbrev pub decreases-loop-k : goal.decreases-loop-k
decreases-loop-k l = l.channels - l.k
