-- `ps_hybrid_analysis::silence_run` meets its contract: after n turns the first n slots are 0. Assumes nothing.
use mathlib.Core.Path.{◌≡◌}
use native.Mathlib.Omega.{arith}
use lib.ListN.{length-set}
use Rattle.planar.proofs.Cells.{by_parts}
use Rattle.standard.proofs.Literals.{zero_is}
use Rattle.ps_hybrid_analysis.proofs.Runs.{filled_none, filled_more, filled_planar}
use Rattle.ps_hybrid_analysis.proofs.silence_run.Goals as goal

pub loop-n-init : goal.loop-n-init
loop-n-init c = record { within = omega arith; filled = filled_none _ _ _ }

pub bounds-run-n-in-loop-n : goal.bounds-run-n-in-loop-n
bounds-run-n-in-loop-n c = simp length-set (omega (arith, c.loop-n.invariant.filled.long))

pub loop-n-preserved : goal.loop-n-preserved
loop-n-preserved c =
    record { within = omega arith; filled = filled_more c.loop-n.invariant.filled _ (by_parts zero_is zero_is) (omega arith) (omega arith) }

pub shape_of-run : goal.shape_of-run
shape_of-run c = c.loop-n.invariant.filled.long

pub returns : goal.returns
returns c =
    let all : c.loop-n.n ≡ c.args.slots.count = omega arith in
    rw all at (filled_planar c.loop-n.invariant.filled c.requires)
