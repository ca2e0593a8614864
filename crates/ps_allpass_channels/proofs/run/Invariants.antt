use mathlib.Core.Path.{◌≡◌}
use mathlib.Core.List.{List}
use Rattle.std.proofs.Common.{Option, Some}
use Prim.Native.Nat.{ℕ, ◌+◌, ◌-◌, ◌≤◌, min}
use lib.IntN.{ℤ}
use lib.Ieee.{Float}
use lib.ListN.{length}
use Rattle.layout.specs.declared.Layout.{Layout}
use Rattle.limits.specs.Limits as limits
use Rattle.ps_allpass_groups.specs.Desk.{chain_on}
use Rattle.ps_stereo_slots.specs.declared.Timing.{Timing}
use Rattle.standard.specs.Channel.{chain_from}
use Rattle.ps_allpass_channels.specs.Desks.{desk_of, Lies, Wayed}
use Rattle.ps_allpass_channels.specs.Slots.{Reached}
use Rattle.ps_allpass_channels.proofs.run.Given as goal

pub record Inv (l : Layout) (timing : Timing) (samples gains rows input desks₀ delays₀ left₀ right₀ : List Float) (count end : ℕ)
    (desks delays left right : List Float) (region : Option ℕ) (n : ℕ) : Type 0 where
  pub within : n ≤ end
  pub ends : end ≡ timing.slots
  pub counted : count ≡ min timing.count limits.envelopes
  pub desks_long : length desks ≡ length desks₀
  pub delays_long : length delays ≡ length delays₀
  pub left_long : length left ≡ length left₀
  pub right_long : length right ≡ length right₀
  pub begun : (e : ℕ) → region ≡ Some e → Wayed l rows e (min (e + 1) count) desks
  pub chains : Lies l chain_on desks (desk_of chain_on desks₀)
  pub sofar : (table : List ℤ) → Lies l chain_on desks₀ (chain_from table l) → Reached l timing table samples gains rows input delays₀ n left₀ right₀ delays left right

abbrev pub invariant-loop-n : goal.invariant-loop-n
invariant-loop-n l = Inv l.lent.layout l.timing l.lent.samples.now l.lent.gains.now l.lent.rows.now l.lent.input.now l.initial.desks l.initial.delays l.initial.left l.initial.right l.count l.n-end l.desks l.delays l.left l.right l.region l.n

abbrev pub decreases-loop-n : goal.decreases-loop-n
decreases-loop-n l = l.n-end - l.n
