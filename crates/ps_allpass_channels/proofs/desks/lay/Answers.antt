-- `ps_allpass_channels::desks::lay` meets its contract: each turn lays one chain more. Assumes nothing.
use mathlib.Core.Path.{◌≡◌, ◌∙◌}
use mathlib.Core.Logic.{◌⊎◌, inl, inr}
use Prim.Native.Nat.{ℕ, ◌+◌, ◌<◌}
use native.Mathlib.Nat.{eq-or-lt_of_le}
use native.Mathlib.Omega.{arith}
use Rattle.layout.proofs.Bounds.{bounds}
use Rattle.standard.specs.declared.Chain.{Chain}
use Rattle.ps_allpass_channels.proofs.desks.lay.Goals as goal

-- one chain more, those before it as they were
one_more : {old new chain : ℕ → Chain} (k : ℕ) → ((i : ℕ) → i < k → old i ≡ chain i) → ((i : ℕ) → i < k → new i ≡ old i) → new k ≡ chain k
    → (i : ℕ) → i < k + 1 → new i ≡ chain i
one_more {old} {new} {chain} k sofar same own i u = at (eq-or-lt_of_le (omega arith))
  where
    at : (i ≡ k) ⊎ (i < k) → new i ≡ chain i
    at (inl e) = rw e own
    at (inr l) = same i l ∙ sofar i l

pub overflow_mul-channels : goal.overflow_mul-channels
overflow_mul-channels c = omega (arith, c.groups-channels.ensures, (bounds c.args.layout).groups)

pub loop-k-init : goal.loop-k-init
loop-k-init c =
    let a = c.args in
    record {
      within = omega arith;
      few = omega (arith, c.groups-channels.ensures, (bounds a.layout).groups);
      whole = omega arith;
      laid = λ i u. absurd (omega arith);
    }

pub loop-k-preserved : goal.loop-k-preserved
loop-k-preserved c =
    let v = c.loop-k.invariant in
    record {
      within = omega (arith, c.loop-k-test.true);
      few = v.few;
      whole = omega (arith, v.whole);
      laid = one_more c.loop-k.k v.laid c.lay_chain.ensures.before (c.lay_chain.ensures.own ∙ c.chain.ensures);
    }

pub returns : goal.returns
returns c =
    let v = c.loop-k.invariant in
    let count = c.groups-channels.ensures in
    λ k u. v.laid k (omega (arith, v.within, count))
