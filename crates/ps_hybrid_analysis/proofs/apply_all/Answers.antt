-- `ps_hybrid_analysis::apply_all` meets its contract: after q turns the first q filters are joined. Assumes nothing.
use mathlib.Core.Path.{◌≡◌}
use Prim.Native.Nat.{◌<◌}
use native.Mathlib.Omega.{arith}
use Rattle.planar.specs.Cells.{cell}
use Rattle.standard.specs.Hybrid.{filters_of}
use Rattle.ps_hybrid_analysis.proofs.Spans.{channel_inside}
use Rattle.ps_hybrid_analysis.proofs.Split.{joined_none, joined_more}
use Rattle.ps_hybrid_analysis.proofs.apply_all.Goals as goal

pub loop-q-init : goal.loop-q-init
loop-q-init c =
    record { within = omega arith; written = joined_none c.args.layout c.args.p (cell 44 c.args.band.run.now) c.requires.by_index }

pub apply-requires : goal.apply-requires
apply-requires c =
    record {
      prototype_value = (c.requires.prototype_value.0, (c.requires.prototype_value.1, omega (arith, c.filters_of-count.ensures)));
      room = rw c.loop-q.invariant.written.long c.requires.room;
    }

pub loop-q-preserved : goal.loop-q-preserved
loop-q-preserved c =
    let a = c.args in
    let q = c.loop-q.q in
    let less : q < filters_of a.bank.now.prototype = omega (arith, c.filters_of-count.ensures) in
    let inside = channel_inside a.layout a.p q c.requires.prototype_value.1 (rw c.requires.prototype_value.0 at less) in
    record {
      within = omega arith;
      written =
          joined_more a.layout a.p (cell 44 a.band.run.now) q a.bank.now.prototype c.requires.prototype_value.0 c.loop-q.invariant.written c.apply.ensures
          a.band.slots.few inside.from inside.to;
    }

pub shape_of-samples : goal.shape_of-samples
shape_of-samples c = c.loop-q.invariant.written.long

pub returns : goal.returns
returns c =
    let all : c.loop-q.q ≡ filters_of c.args.bank.now.prototype = omega (arith, c.filters_of-count.ensures) in
    rw all at c.loop-q.invariant.written
