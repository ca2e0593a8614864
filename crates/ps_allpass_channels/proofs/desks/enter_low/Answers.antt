-- `ps_allpass_channels::desks::enter_low` meets its contract: each turn enters one channel's sample more. Assumes nothing.
use mathlib.Core.Path.{◌≡◌, refl}
use Prim.Native.Nat.{◌+◌, ◌-◌, ◌<◌}
use native.Mathlib.Omega.{arith}
use lib.ListN.{length-set}
use Rattle.planar.specs.Frame.{qmf_at}
use Rattle.ps_allpass_channels.proofs.DeskPuts.{channels_none, channels_more}
use Rattle.ps_allpass_channels.proofs.DeskLaid.{sample_put}
use Rattle.ps_allpass_channels.proofs.desks.enter_low.Invariants.{sample_of}
use Rattle.ps_allpass_channels.proofs.desks.enter_low.Goals as goal

pub loop-k-init : goal.loop-k-init
loop-k-init c =
    let a = c.args in
    record {
      from = omega arith;
      within = c.requires.1;
      whole = omega arith;
      laid = channels_none a.unsplit 27 (λ j. j < 29) (sample_of a.input.now a.n a.split a.unsplit) a.desks.now;
    }

pub loop-k-preserved : goal.loop-k-preserved
loop-k-preserved c =
    let l = c.loop-k in
    let a = c.args in
    let more : l.k < a.end = c.loop-k-test.true in
    record {
      from = omega (arith, l.invariant.from);
      within = omega (arith, more);
      whole = simp length-set l.invariant.whole;
      laid =
          channels_more l.invariant.laid
          (sample_put l.k l.desks (omega (arith, more, c.requires.2)) l.invariant.whole (qmf_at a.input.now a.n (l.k + a.split - a.unsplit)))
          l.invariant.from (λ j. refl);
    }

pub returns : goal.returns
returns c =
    let l = c.loop-k in
    let all : l.k ≡ c.args.end = omega (arith, l.invariant.within, c.loop-k-test.false) in
    rw all at l.invariant.laid
