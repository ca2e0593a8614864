use mathlib.Core.Path.{◌≡◌}
use mathlib.Core.List.{List}
use Prim.Native.Nat.{ℕ, ◌+◌, ◌*◌, ◌≤◌, ◌-◌}
use lib.Ieee.{Float}
use lib.ListN.{length}
use Rattle.layout.specs.declared.Layout.{Layout}
use Rattle.layout.specs.Numbers.{split_of, unsplit_from_of}
use Rattle.standard.specs.Hybrid.{synthesised}
use Rattle.plain_slots.specs.Rows.{in_row}
use Rattle.plain_slots.proofs.Carried.{Carried}
use Rattle.plain_slots.proofs.Bands.{passed}
use Rattle.plain_slots.proofs.synthesise.Given as goal

-- the lists are long enough
pub record Fitting (split unsplit : ℕ) (hybrid row : List Float) : Type 0 where
  pub whole : 2 * (unsplit + 64) ≤ length hybrid + 2 * split
  pub room : 128 ≤ length row
  pub few : split ≤ 5
  pub small : unsplit ≤ 50

pub record First (l : Layout) (split unsplit : ℕ) (hybrid old row : List Float) (q : ℕ) : Type 0 where
  pub fits : Fitting split unsplit hybrid old
  pub split_is : split ≡ split_of l
  pub unsplit_is : unsplit ≡ unsplit_from_of l
  pub within : q ≤ split
  pub carried : Carried (synthesised l (in_row hybrid)) 0 q old row

pub record Second (split unsplit : ℕ) (hybrid old row : List Float) (q : ℕ) : Type 0 where
  pub fits : Fitting split unsplit hybrid old
  pub begun : split ≤ q
  pub within : q ≤ 64
  pub carried : Carried (passed hybrid split unsplit) split q old row

abbrev pub invariant-loop-q : goal.invariant-loop-q
invariant-loop-q l = First l.layout l.split l.unsplit l.hybrid l.initial.row l.row l.q

abbrev pub decreases-loop-q : goal.decreases-loop-q
decreases-loop-q l = l.split - l.q

abbrev pub invariant-loop-q-2 : goal.invariant-loop-q-2
invariant-loop-q-2 l = Second l.split l.unsplit l.hybrid l.initial.row l.row l.q

abbrev pub decreases-loop-q-2 : goal.decreases-loop-q-2
decreases-loop-q-2 l = 64 - l.q
