-- `ps_allpass_channels::desks::split_desks` meets its contract: each turn enters the samples of one desk more. Assumes nothing.
use mathlib.Core.Path.{◌≡◌, ap, ◌∙◌}
use mathlib.Core.List.{List}
use Prim.Native.Nat.{ℕ, ◌+◌, ◌-◌, ◌*◌, ◌≤◌, ◌<◌}
use native.Mathlib.Omega.{arith}
use lib.Ieee.{Float}
use Rattle.complex.specs.declared.Complex.{Complex}
use Rattle.planar.specs.Cells.{cell}
use Rattle.planar.specs.Frame.{sample_at}
use Rattle.ps_allpass_channels.specs.DeskNumbers.{sample_number}
use Rattle.ps_allpass_channels.proofs.DeskLaid.{in_run}
use Rattle.ps_allpass_channels.proofs.DeskPuts.{channels_none}
use Rattle.ps_allpass_channels.proofs.DeskRuns.{channels_on}
use Rattle.ps_allpass_channels.proofs.desks.split_desks.Goals as goal

-- a desk's numbers are those of its channels' runs
run : (samples : List Float) (n g k j : ℕ) → 4 * g ≤ k → n < 32 → sample_number (cell 32 samples (256 * g + n + 64 * (k - 4 * g))) j ≡ sample_number (sample_at samples n k) j
run samples n g k j low slot =
    let place : 256 * g + n + 64 * (k - 4 * g) ≡ 64 * k + n = omega arith in
    ap (λ (x : Complex). sample_number x j) (ap (cell 32 samples) place ∙ in_run samples n k slot)

pub loop-g-init : goal.loop-g-init
loop-g-init c =
    let a = c.args in
    record {
      within = omega arith;
      whole = omega arith;
      laid = channels_none 0 27 (λ j. j < 29) (λ k. sample_number (sample_at a.samples.now a.n k)) a.desks.now;
    }

pub enter_four-requires : goal.enter_four-requires
enter_four-requires c =
    (omega (arith, c.requires.1, c.requires.2, c.loop-g-test.true), omega (arith, c.requires.0, c.loop-g-test.true))

pub loop-g-preserved : goal.loop-g-preserved
loop-g-preserved c =
    let l = c.loop-g in
    let next : 4 * (l.g + 1) ≡ 4 * l.g + 4 = omega arith in
    record {
      within = omega (arith, c.loop-g-test.true);
      whole = c.enter_four.ensures.long ∙ l.invariant.whole;
      laid = rw next (channels_on l.invariant.laid c.enter_four.ensures (omega arith) (omega arith) (λ k j a b. run c.args.samples.now c.args.n l.g k j a c.requires.1));
    }

pub returns : goal.returns
returns c =
    let l = c.loop-g in
    let all : l.g ≡ c.args.whole = omega (arith, l.invariant.within, c.loop-g-test.false) in
    rw all at l.invariant.laid
