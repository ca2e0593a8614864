-- `ps_hybrid_analysis::band::gather` meets its contract: the input's slots follow the history's. Assumes nothing.
use Prim.Native.Nat.{◌+◌}
use native.Mathlib.Omega.{arith}
use Rattle.ps_hybrid_analysis.proofs.Runs.{gathered}
use Rattle.ps_hybrid_analysis.proofs.band.gather.Goals as goal

pub ahead-requires : goal.ahead-requires
ahead-requires c =
    record {
      p_bound = (c.requires.p_bound, (omega arith, omega arith));
      count_in_bounds = omega arith;
    }

pub returns : goal.returns
returns c =
    let a = c.args in
    gathered a.history.now a.input.now a.p (a.slots.count + 12) a.band.now _ c.past.ensures c.ahead.ensures (omega arith)
