-- `ps_allpass_channels::rows::add_split` meets its contract: after p turns the first p bands are their channels' sums. Assumes nothing.
use mathlib.Core.Path.{◌≡◌, ◌∙◌}
use Prim.Native.Nat.{ℕ, suc, ◌+◌, ◌-◌, ◌<◌}
use native.Mathlib.Numerals.{add-one}
use native.Mathlib.Omega.{arith}
use Rattle.complex.specs.declared.Complex.{Complex}
use Rattle.layout.specs.declared.Layout.{Layout}
use Rattle.layout.specs.Numbers.{split_of, first_channel_of}
use Rattle.layout.proofs.Bounds.{bounds}
use Rattle.standard.specs.Hybrid.{added_to, synthesised}
use Rattle.standard.proofs.Spans.{spans}
use Rattle.ps_allpass_channels.specs.Desks.{standing}
use Rattle.ps_allpass_channels.proofs.Leaving.{rowed_none, rowed_more, band_split}
use Rattle.ps_allpass_channels.proofs.rows.add_split.Goals as goal

-- the channels of a band, read by the code's numbers
band : (l : Layout) (y : ℕ → Complex) (p from end : ℕ) (v : Complex) → p < split_of l → from ≡ first_channel_of l p → end ≡ first_channel_of l (p + 1)
    → v ≡ added_to y from (end - from) → v ≡ synthesised l y p
band l y p from end v u e f is =
    let next : end ≡ first_channel_of l (suc p) = rw add-one at f in
    rw (e, next) at is ∙ band_split l y p u

pub loop-p-init : goal.loop-p-init
loop-p-init c = record { within = omega arith; few = (bounds c.args.layout).split; rowed = rowed_none _ _ _ }

pub added-sum-requires : goal.added-sum-requires
added-sum-requires c =
    let p = c.loop-p.p in
    let from = c.first_channel.ensures in
    let end : c.first_channel-in-loop-p.result ≡ first_channel_of c.args.layout (suc p) = rw add-one at c.first_channel-in-loop-p.ensures in
    let rising = (spans c.args.layout p).rises in
    let few = (spans c.args.layout (suc p)).few in
    (omega (arith, from, end, rising), (omega (arith, end, few), c.requires))

pub loop-p-preserved : goal.loop-p-preserved
loop-p-preserved c =
    let a = c.args in
    let p = c.loop-p.p in
    let y = standing a.desks.now a.place in
    let more : p < split_of a.layout = omega (arith, c.split-p-end.ensures, c.loop-p-test.true) in
    let from = c.first_channel in
    let end = c.first_channel-in-loop-p in
    record {
      within = omega (arith, more);
      few = c.loop-p.invariant.few;
      rowed =
          rowed_more (synthesised a.layout y) 0 p a.row.now c.loop-p.row c.added-sum.result c.loop-p.invariant.rowed
          (band a.layout y p from.result end.result c.added-sum.result more from.ensures end.ensures c.added-sum.ensures) (omega arith)
          (omega (arith, more, c.loop-p.invariant.few));
    }

pub returns : goal.returns
returns c =
    let all : c.loop-p.p ≡ split_of c.args.layout = omega (arith, c.loop-p.invariant.within, c.split-p-end.ensures, c.loop-p-test.false) in
    rw all at c.loop-p.invariant.rowed
