-- `ps_hybrid_analysis::filter::join` meets its contract: after n turns the first n slots have the filter's answer added. Assumes nothing.
use mathlib.Core.Path.{◌≡◌, ap₂}
use native.Mathlib.Omega.{arith}
use lib.ListN.{length-set}
use Rattle.complex.specs.Operations.{sum}
use Rattle.planar.specs.Cells.{cell}
use Rattle.ps_hybrid_analysis.proofs.Runs.{filled_none, filled_more, filled_planar}
use Rattle.ps_hybrid_analysis.proofs.filter.join.Goals as goal

pub loop-n-init : goal.loop-n-init
loop-n-init c = record { within = omega arith; filled = filled_none _ _ _ }

pub bounds-run-n-in-loop-n-3 : goal.bounds-run-n-in-loop-n-3
bounds-run-n-in-loop-n-3 c = simp length-set (omega (arith, c.loop-n.invariant.filled.long))

pub loop-n-preserved : goal.loop-n-preserved
loop-n-preserved c =
    let n = c.loop-n.n in
    record {
      within = omega arith;
      filled =
          filled_more c.loop-n.invariant.filled (sum (cell 32 c.loop-n.run n) c.convolved-y.result)
          (ap₂ sum (c.loop-n.invariant.filled.rest n (omega arith) (omega arith)) c.convolved-y.ensures)
          (omega arith) (omega arith);
    }

pub shape_of-run : goal.shape_of-run
shape_of-run c = c.loop-n.invariant.filled.long

pub returns : goal.returns
returns c =
    let all : c.loop-n.n ≡ c.args.band.slots.count = omega arith in
    rw all at (filled_planar c.loop-n.invariant.filled c.requires)
