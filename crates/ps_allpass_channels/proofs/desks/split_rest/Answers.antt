-- `ps_allpass_channels::desks::split_rest` meets its contract: each turn enters one channel's sample more. Assumes nothing.
use mathlib.Core.Path.{◌≡◌, ap}
use Prim.Native.Nat.{◌+◌, ◌*◌, ◌<◌}
use native.Mathlib.Omega.{arith}
use lib.ListN.{length-set}
use Rattle.complex.specs.declared.Complex.{Complex}
use Rattle.planar.specs.Cells.{cell}
use Rattle.planar.specs.Frame.{sample_at}
use Rattle.ps_allpass_channels.specs.DeskNumbers.{sample_number}
use Rattle.ps_allpass_channels.proofs.DeskPuts.{channels_none, channels_more}
use Rattle.ps_allpass_channels.proofs.DeskLaid.{sample_put, in_run}
use Rattle.ps_allpass_channels.proofs.desks.split_rest.Goals as goal

pub loop-k-init : goal.loop-k-init
loop-k-init c =
    let a = c.args in
    record {
      from = omega arith;
      within = c.requires.0;
      whole = omega arith;
      laid = channels_none a.first 27 (λ j. j < 29) (λ k. sample_number (sample_at a.samples.now a.n k)) a.desks.now;
    }

pub loop-k-preserved : goal.loop-k-preserved
loop-k-preserved c =
    let l = c.loop-k in
    let a = c.args in
    let more : l.k < a.unsplit = c.loop-k-test.true in
    record {
      from = omega (arith, l.invariant.from);
      within = omega (arith, more);
      whole = simp length-set l.invariant.whole;
      laid =
          channels_more l.invariant.laid (sample_put l.k l.desks (omega (arith, more, c.requires.1)) l.invariant.whole (cell 32 a.samples.now (64 * l.k + a.n)))
          l.invariant.from (λ j. ap (λ (x : Complex). sample_number x j) (in_run a.samples.now a.n l.k c.requires.2));
    }

pub returns : goal.returns
returns c =
    let l = c.loop-k in
    let all : l.k ≡ c.args.unsplit = omega (arith, l.invariant.within, c.loop-k-test.false) in
    rw all at l.invariant.laid
