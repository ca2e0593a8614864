use mathlib.Core.Path.{◌≡◌}
use mathlib.Core.List.{List}
use Prim.Native.Nat.{ℕ, ◌-◌, ◌≤◌, ◌<◌}
use lib.IntN.{ℤ}
use lib.Ieee.{Float}
use lib.ListN.{length}
use Rattle.layout.specs.declared.Layout.{Layout}
use Rattle.ps_allpass_groups.specs.Desk.{chain_on}
use Rattle.standard.specs.Channel.{chain_from}
use Rattle.ps_allpass_channels.specs.Desks.{desk_of}
use Rattle.ps_allpass_channels.proofs.desks.lay.Given as goal

pub record Inv (layout : Layout) (table : List ℤ) (channels : ℕ) (desks : List Float) (k : ℕ) : Type 0 where
  pub within : k ≤ channels
  pub few : channels ≤ 52
  pub whole : length desks ≡ 1768
  pub laid : (i : ℕ) → i < k → desk_of chain_on desks i ≡ chain_from table layout i

abbrev pub invariant-loop-k : goal.invariant-loop-k
invariant-loop-k l = Inv l.layout l.table l.channels l.desks l.k

abbrev pub decreases-loop-k : goal.decreases-loop-k
decreases-loop-k l = l.channels - l.k
