-- `ps_allpass_channels::desks::enter_high` meets its contract: each turn enters the samples of one desk more. Assumes nothing.
use mathlib.Core.Path.{◌≡◌, ap, ◌∙◌}
use mathlib.Core.List.{List}
use Prim.Native.Nat.{ℕ, ◌+◌, ◌-◌, ◌*◌, ◌≤◌, ◌<◌}
use native.Mathlib.Omega.{arith}
use lib.Ieee.{Float}
use Rattle.planar.specs.Cells.{cell}
use Rattle.ps_allpass_channels.specs.DeskNumbers.{sample_number}
use Rattle.ps_allpass_channels.proofs.DeskPuts.{channels_none}
use Rattle.ps_allpass_channels.proofs.DeskRuns.{channels_on}
use Rattle.ps_allpass_channels.proofs.desks.enter_high.Invariants.{sample_of}
use Rattle.ps_allpass_channels.proofs.desks.enter_high.Goals as goal

-- a desk's bands are those from its place of the input on
band : (input : List Float) (n first i k j : ℕ) → 4 * (first + i) ≤ k
    → sample_number (cell 1 input (128 * n + 8 * i + 10 + 2 * (k - 4 * (first + i)))) j ≡ sample_of input n first k j
band input n first i k j low = ap (λ (p : ℕ). sample_number (cell 1 input p) j) (omega arith)

pub loop-i-init : goal.loop-i-init
loop-i-init c =
    let a = c.args in
    let none : 4 * (a.first + 0) ≡ 4 * a.first = omega arith in
    record {
      within = omega arith;
      whole = omega arith;
      laid = rw none (channels_none (4 * a.first) 27 (λ j. j < 29) (sample_of a.input.now a.n a.first) a.desks.now);
    }

pub loop-i-preserved : goal.loop-i-preserved
loop-i-preserved c =
    let l = c.loop-i in
    let a = c.args in
    let next : 4 * (a.first + (l.i + 1)) ≡ 4 * (a.first + l.i) + 4 = omega arith in
    record {
      within = omega (arith, c.loop-i-test.true);
      whole = c.enter_four.ensures.long ∙ l.invariant.whole;
      laid =
          rw next (channels_on l.invariant.laid c.enter_four.ensures (omega arith) (omega arith)
          (λ k j low u. band a.input.now a.n a.first l.i k j low));
    }

pub returns : goal.returns
returns c =
    let l = c.loop-i in
    let first = c.args.first in
    let all : 4 * (first + l.i) ≡ 4 * first + 20 = omega (arith, l.invariant.within, c.loop-i-test.false) in
    rw all at l.invariant.laid
