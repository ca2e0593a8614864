-- `ps_allpass_channels::rows::pass_desks` meets its contract: after j turns the bands of j desks are their channels. Assumes nothing.
use mathlib.Core.Path.{◌≡◌, ap}
use mathlib.Core.List.{List}
use Prim.Native.Nat.{ℕ, ◌+◌, ◌-◌, ◌*◌, ◌/◌, ◌%◌, ◌<◌, ◌≤◌}
use borrow.Author.Rules.{rules}
use native.Mathlib.Omega.{arith}
use lib.Ieee.{Float}
use Rattle.planar.specs.Cells.{cell}
use Rattle.ps_allpass_channels.specs.Desks.{Rowed}
use Rattle.ps_allpass_channels.proofs.Leaving.{rowed_none, rowed_then}
use Rattle.ps_allpass_channels.proofs.rows.pass_desks.Invariants.{lined}
use Rattle.ps_allpass_channels.proofs.rows.pass_desks.Goals as goal

-- the next desk's four bands
one_more : (desks : List Float) (first j : ℕ) (old row new : List Float) → Rowed (lined desks first) 5 (4 * j + 5) old row
    → Rowed (λ p. cell 4 desks (first + 136 * j + (p - (4 * j + 5)))) (4 * j + 5) (4 * j + 5 + 4) row new
    → Rowed (lined desks first) 5 (4 * (j + 1) + 5) old new
one_more desks first j old row new a b =
    let next : 4 * (j + 1) + 5 ≡ 4 * j + 5 + 4 = omega arith in
    rw next
    (rowed_then (lined desks first) (λ p. cell 4 desks (first + 136 * j + (p - (4 * j + 5)))) 5 (4 * j + 5) (4 * j + 5 + 4) old row new a b (omega arith)
    (omega arith) (λ q u v. ap (cell 4 desks) (place q u v)))
  where
    place : (q : ℕ) → 4 * j + 5 ≤ q → q < 4 * j + 5 + 4 → first + 136 * j + (q - (4 * j + 5)) ≡ first + 136 * ((q - 5) / 4) + (q - 5) % 4
    place q u v = omega arith

pub loop-j-init : goal.loop-j-init
loop-j-init c = record { within = search rules; rowed = rowed_none _ 5 _ }

pub pass_four-requires : goal.pass_four-requires
pass_four-requires c =
    let more = c.loop-j-test.true in
    record { at_bound = omega (arith, more, c.requires); q_bound = omega (arith, more) }

pub loop-j-preserved : goal.loop-j-preserved
loop-j-preserved c =
    let a = c.args in
    let more : c.loop-j.j < 4 = c.loop-j-test.true in
    record {
      within = omega (arith, more);
      rowed = one_more a.desks.now a.first c.loop-j.j a.row.now c.loop-j.row c.pass_four.new.row c.loop-j.invariant.rowed c.pass_four.ensures;
    }

pub returns : goal.returns
returns c =
    let all : c.loop-j.j ≡ 4 = omega (arith, c.loop-j.invariant.within, c.loop-j-test.false) in
    rw all at c.loop-j.invariant.rowed
