-- `ps_allpass_channels::desks::lay_way` meets its contract: each turn stores one coefficient more, and its gain. Assumes nothing.
use mathlib.Core.Path.{◌≡◌, refl}
use mathlib.Core.List.{List}
use mathlib.Core.Logic.{◌≢◌}
use Prim.Native.Nat.{ℕ, ◌+◌, ◌-◌, ◌*◌, ◌/◌, ◌%◌, ◌<◌}
use native.Mathlib.Omega.{arith}
use borrow.Author.Tests.{lt-ltb, le-ltb}
use lib.Ieee.{Float, nan, binary64, sub}
use lib.ListN.{length, get_or, set, length-set}
use Rattle.ps_allpass_channels.specs.DeskNumbers.{Put}
use Rattle.ps_allpass_channels.proofs.DeskPuts.{put_none, put_more, put_all}
use Rattle.ps_allpass_channels.proofs.DeskReads.{way_number}
use Rattle.ps_allpass_channels.proofs.desks.lay_way.Invariants.{After}
use Rattle.ps_allpass_channels.proofs.desks.lay_way.Goals as goal

module _ (rows : List Float) (from to c : ℕ) (few : c < 8) where
  coefficient : get_or rows (from + c) nan ≡ way_number rows from to (11 + c)
  coefficient =
      let here : 11 + c - 11 ≡ c = omega arith in
      rw (lt-ltb (11 + c) 19 (omega arith), here) refl

  gain : sub binary64 (get_or rows (to + c) nan) (get_or rows (from + c) nan) ≡ way_number rows from to (19 + c)
  gain =
      let here : 19 + c - 19 ≡ c = omega arith in
      rw (le-ltb (19 + c) 19 (omega arith), here) refl

  -- a turn
  turned : (k : ℕ) (desks₀ desks : List Float) → k < 52 → length desks₀ ≡ 1768 → Put k (k + 1) 11 (After c) (λ _. way_number rows from to) desks₀ desks
      → Put k (k + 1) 11 (After (c + 1)) (λ _. way_number rows from to) desks₀
      (set (set desks (136 * (k / 4) + k % 4 + 44 + 4 * c) (get_or rows (from + c) nan)) (136 * (k / 4) + k % 4 + 44 + 4 * c + 32)
      (sub binary64 (get_or rows (to + c) nan) (get_or rows (from + c) nan)))
  turned k desks₀ desks u whole r =
      let at = 136 * (k / 4) + k % 4 + 44 + 4 * c in
      put_more
      (put_more r (λ j. After (c + 1) j × (j ≢ 19 + c)) (11 + c) at (get_or rows (from + c) nan) u whole (omega arith) (omega arith) (omega arith) coefficient
      (λ j lo some ne. (some.0.0, omega arith)))
      (After (c + 1)) (19 + c) (at + 32) (sub binary64 (get_or rows (to + c) nan) (get_or rows (from + c) nan)) u whole (omega arith) (omega arith) (omega arith) gain
      (λ j lo some ne. (some, ne))

pub loop-c-init : goal.loop-c-init
loop-c-init c =
    let a = c.args in
    record {
      within = omega arith;
      whole = omega arith;
      laid = put_all (put_none a.k 11 (λ _. way_number a.rows.now a.from a.to) a.desks.now) (After 0) (λ j lo some. absurd (omega arith));
    }

pub loop-c-preserved : goal.loop-c-preserved
loop-c-preserved c =
    let l = c.loop-c in
    let a = c.args in
    let few : l.c < 8 = c.loop-c-test.true in
    record {
      within = omega arith;
      whole = simp length-set l.invariant.whole;
      laid = turned a.rows.now a.from a.to l.c few a.k a.desks.now l.desks c.requires.2 (omega arith) l.invariant.laid;
    }

pub returns : goal.returns
returns c =
    put_all c.loop-c.invariant.laid (λ j. j < 27) (λ j lo u. (u, omega (arith, c.loop-c-test.false)))
