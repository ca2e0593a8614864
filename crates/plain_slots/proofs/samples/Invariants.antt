use mathlib.Core.Path.{◌≡◌}
use mathlib.Core.List.{List}
use Prim.Native.Nat.{ℕ, ◌+◌, ◌-◌, ◌*◌, ◌<◌, ◌≤◌}
use lib.Ieee.{Float}
use lib.ListN.{length}
use Rattle.plain_slots.proofs.Carried.{Carried}
use Rattle.plain_slots.proofs.Reading.{in_run, in_slot}
use Rattle.plain_slots.proofs.samples.Given as goal

-- the lists are long enough
pub record Fitting (n unsplit bands channels : ℕ) (split input row : List Float) : Type 0 where
  pub small : n < 32
  pub runs : 64 * unsplit ≤ length split
  pub slot : 128 * n + 128 ≤ length input
  pub room : 2 * channels ≤ length row
  pub few : channels ≤ 91
  pub columns : channels + bands ≡ unsplit + 64

pub record First (n unsplit bands channels : ℕ) (split input old row : List Float) (k : ℕ) : Type 0 where
  pub fits : Fitting n unsplit bands channels split input old
  pub within : k ≤ unsplit
  pub above : unsplit ≤ channels
  pub carried : Carried (in_run split n) 0 k old row

pub record Second (n unsplit bands channels : ℕ) (split input old row : List Float) (k : ℕ) : Type 0 where
  pub fits : Fitting n unsplit bands channels split input old
  pub begun : unsplit ≤ k
  pub within : k ≤ channels
  pub carried : Carried (in_slot input n bands unsplit) unsplit k old row

abbrev pub invariant-loop-k : goal.invariant-loop-k
invariant-loop-k l = First l.n l.unsplit l.bands l.channels l.split l.input l.initial.row l.row l.k

abbrev pub decreases-loop-k : goal.decreases-loop-k
decreases-loop-k l = l.unsplit - l.k

abbrev pub invariant-loop-k-2 : goal.invariant-loop-k-2
invariant-loop-k-2 l = Second l.n l.unsplit l.bands l.channels l.split l.input l.initial.row l.row l.k

abbrev pub decreases-loop-k-2 : goal.decreases-loop-k-2
decreases-loop-k-2 l = l.channels - l.k
