-- `ps_hybrid_analysis::split_bands` meets its contract: after p turns the channels and the histories of the first p bands are done. Assumes nothing.
use mathlib.Core.Path.{◌≡◌, refl, ap, ◌∙◌}
use mathlib.Core.List.{List}
use Prim.Native.Nat.{◌+◌, ◌-◌, ◌*◌, ◌<◌}
use native.Mathlib.Omega.{arith}
use lib.Ieee.{Float}
use lib.ListN.{length}
use Rattle.layout.specs.Numbers.{split_of}
use Rattle.lists.specs.Part.{part}
use Rattle.lists.proofs.Front.{front_lent, front_long}
use Rattle.lists.proofs.Parts.{part_length}
use Rattle.lists.proofs.Rows.{rowed_none, rowed_more}
use Rattle.planar.specs.Cells.{planar}
use Rattle.planar.proofs.Cells.{planar_length}
use Rattle.ps_hybrid_analysis.specs.Analysis.{slot_at}
use Rattle.ps_hybrid_analysis.specs.Stages.{band_at}
use Rattle.ps_hybrid_analysis.proofs.Channels.{written_none}
use Rattle.standard.proofs.Spans.{span_first, spans}
use Rattle.ps_hybrid_analysis.proofs.Split.{split_on}
use Rattle.ps_hybrid_analysis.proofs.split_bands.Goals as goal

pub loop-p-init : goal.loop-p-init
loop-p-init c =
    record {
      within = omega arith;
      kept = rowed_none _ _;
      long = refl;
      written = rw (span_first c.args.layout) (written_none _ _ _ _);
    }

pub slice_bounds-split_band-end : goal.slice_bounds-split_band-end
slice_bounds-split_band-end c =
    omega (arith, c.loop-p.invariant.long, c.split-split.ensures, c.requires.history_len)

pub split_band-requires : goal.split_band-requires
split_band-requires c =
    let p = c.loop-p.p in
    let less : p < split_of c.args.layout = omega (arith, c.split-split.ensures) in
    record {
      p_bound = (less, (ap length (front_lent c.loop-p.invariant.kept.front 12) ∙ part_length (12 * p) 12 c.args.history.now (omega (arith, c.requires.history_len))));
      slots_in_bounds = (c.requires.slots_in_bounds.0, rw c.loop-p.invariant.written.long c.requires.slots_in_bounds.1);
    }

pub loop-p-preserved : goal.loop-p-preserved
loop-p-preserved c =
    let a = c.args in
    let p = c.loop-p.p in
    let less : p < split_of a.layout = omega (arith, c.split-split.ensures) in
    let next : 12 * (p + 1) ≡ 12 * p + 12 = omega arith in
    let lent = front_lent c.loop-p.invariant.kept.front 12 in
    let new = c.split_band.ensures.history ∙ ap (λ (t : List Float). planar 6 (λ j. band_at t a.input.now p (a.slots.count + j))) lent in
    let kept = rowed_more c.loop-p.invariant.kept 12 c.split_band.new.history new (ap length new ∙ planar_length 6 _) next in
    record {
      within = omega arith;
      kept = kept;
      long = front_long kept.front (omega (arith, c.requires.history_len));
      written =
          split_on a.layout (slot_at a.layout a.history.now a.input.now) p (band_at (part (12 * p) (12 * p + 12 - 12 * p) c.loop-p.history) a.input.now p)
          c.loop-p.invariant.written c.split_band.ensures.samples
          (λ j. ap (λ (t : List Float). band_at t a.input.now p j) lent) a.slots.few less;
    }

pub shape_of-history : goal.shape_of-history
shape_of-history c = c.loop-p.invariant.long

pub shape_of-samples : goal.shape_of-samples
shape_of-samples c = c.loop-p.invariant.written.long

pub returns : goal.returns
returns c =
    let layout = c.args.layout in
    let all : c.loop-p.p ≡ split_of layout = omega (arith, c.split-split.ensures) in
    record {
      history = rw all at c.loop-p.invariant.kept.front.is;
      samples = rw (all, (spans layout (split_of layout)).last (omega arith)) at c.loop-p.invariant.written;
    }
