-- `ps_hybrid_analysis::split_band` meets its contract: the gathered slots are the band's as far as the filters and the history reach. Assumes nothing.
use mathlib.Core.Path.{◌∙◌}
use Prim.Native.Nat.{◌+◌}
use native.Mathlib.Omega.{arith}
use Rattle.planar.specs.Cells.{cell}
use Rattle.standard.specs.Hybrid.{prototype_for, filters_of, joined_to}
use Rattle.ps_hybrid_analysis.specs.Stages.{band_at}
use Rattle.ps_hybrid_analysis.proofs.Channels.{written_same}
use Rattle.planar.proofs.Cells.{planar_same}
use Rattle.layout.proofs.Bounds.{bounds}
use Rattle.ps_hybrid_analysis.proofs.Runs.{slot_at}
use Rattle.ps_hybrid_analysis.proofs.Split.{joined_same}
use Rattle.ps_hybrid_analysis.proofs.split_band.Goals as goal

pub gather-requires : goal.gather-requires
gather-requires c =
    record {
      p_bound = omega (arith, (bounds c.args.layout).split, c.requires.p_bound.0);
      history_len = (c.requires.p_bound.1, c.requires.slots_in_bounds.0);
    }

pub returns : goal.returns
returns c =
    let a = c.args in
    let band = cell 44 c.gather.new.band in
    let x = band_at a.history.now a.input.now a.p in
    let at = slot_at (a.slots.count + 12) x _ c.gather.ensures (omega arith) in
    record {
      history = c.keep.ensures ∙ planar_same 6 (λ j. band (a.slots.count + j)) (λ j. x (a.slots.count + j)) (λ j u. at (a.slots.count + j) (omega arith));
      samples = written_same c.filter_band.ensures (λ k n. joined_to a.layout a.p x n k (filters_of (prototype_for a.layout a.p)))
          (λ k n u v w. joined_same a.layout a.p band x n k (filters_of (prototype_for a.layout a.p)) (λ j z. at j (omega arith)));
    }
