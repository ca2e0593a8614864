-- `ps_delay_channels::span::each` meets its contract. The loop's invariant: the channels below k have come. The measure is what is left of the delay's
-- channels. Assumes nothing.
use mathlib.Core.Path.{◌≡◌, ap, ◌∙◌}
use mathlib.Core.List.{List}
use Prim.Native.Nat.{ℕ, ◌-◌, ◌<◌, ◌≤◌}
use native.Mathlib.Omega.{arith}
use lib.ListN.{get_or}
use Rattle.layout.proofs.Bounds.{bounds}
use Rattle.ps_map.specs.Bands.{band_of}
use Rattle.ps_map.proofs.Bands.{band_small}
use Rattle.standard.specs.Mixing.{left_of, right_of}
use Rattle.ps_delay_channels.proofs.Numbers.{band_below}
use Rattle.ps_delay_channels.proofs.Spans.{framed_on, span_before, spanning_none, spanning_more, spanning_all}
use Rattle.ps_delay_channels.proofs.span.each.Goals as goal

-- a span more leaves fewer
fewer : (k next n : ℕ) → k < next → next ≤ n → n - next < n - k
fewer k next n h u = omega arith

pub overflow_add-end : goal.overflow_add-end
overflow_add-end c =
    let m = bounds c.args.common.layout in
    omega (arith, c.requires.layout_bound.1)

pub loop-k-init : goal.loop-k-init
loop-k-init c = spanning_none _ _ _ _ _ _ _ _ _ _

pub span_end-next-requires : goal.span_end-next-requires
span_end-next-requires c =
    let m = bounds c.args.common.layout in
    (c.loop-k-test.true, omega (arith, c.requires.layout_bound.1))

pub bounds-map-k : goal.bounds-map-k
bounds-map-k c =
    let m = bounds c.args.common.layout in
    omega (arith, c.requires.layout_bound.1, c.loop-k-test.true)

pub overflow_add-span : goal.overflow_add-span
overflow_add-span c =
    let m = bounds c.args.common.layout in
    let r = c.requires.layout_bound in
    omega (arith, r.1, r.2, r.0, c.loop-k-test.true)

pub mix_span-requires : goal.mix_span-requires
mix_span-requires c =
    let a = c.args in
    let k = c.loop-k.k in
    let v = c.loop-k.invariant in
    let band : c.from.result ≡ band_of a.common.layout k = c.from.ensures ∙ ap (λ (c : List ℕ). get_or c k 0) c.parameter_map-map.ensures in
    let small = band_small a.common.layout k in record {
      fractions = (c.requires.fractions.0, rw band (band_below a.common.layout k));
      band_in_bounds = (omega (arith, c.requires.layout_in_bounds.0, band, small), omega (arith, c.requires.layout_in_bounds.1, band, small));
      frame = (
        framed_on c.requires.fractions.1 _ _ v.lefts.long v.rights.long,
        span_before c.requires.layout_bound.3 a.start k c.span_end-next.result v.low c.span_end-next.ensures.1.0 c.span_end-next.ensures.1.1,
      );
    }

pub loop-k-smaller : goal.loop-k-smaller
loop-k-smaller c =
    fewer c.loop-k.k c.span_end-next.result _ c.span_end-next.ensures.1.0 c.span_end-next.ensures.1.1

pub loop-k-preserved : goal.loop-k-preserved
loop-k-preserved c =
    let v = c.loop-k.invariant in
    spanning_more _ _ _ _ _ _ _ _ _ _ _ c.span_end-next.ensures.0 c.from.ensures v.low c.span_end-next.ensures.1.0 c.span_end-next.ensures.1.1 v
    c.mix_span.ensures.left c.mix_span.ensures.right

pub shape_of-left : goal.shape_of-left
shape_of-left c = c.loop-k.invariant.lefts.long

pub shape_of-right : goal.shape_of-right
shape_of-right c = c.loop-k.invariant.rights.long

pub returns : goal.returns
returns c =
    let r = c.requires.layout_bound in
    let map = c.parameter_map-map.ensures in record {
      left = spanning_all _ _ _ _ _ _ _ _ _ map r.0 r.2 left_of c.loop-k.k (omega (arith, c.loop-k.invariant.high, c.loop-k-test.false)) c.loop-k.invariant.lefts;
      right = spanning_all _ _ _ _ _ _ _ _ _ map r.0 r.2 right_of c.loop-k.k (omega (arith, c.loop-k.invariant.high, c.loop-k-test.false)) c.loop-k.invariant.rights;
    }
