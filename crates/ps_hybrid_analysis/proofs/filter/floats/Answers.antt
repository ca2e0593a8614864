-- `ps_hybrid_analysis::filter::floats` meets its contract: after t turns the first t roots stand. Assumes nothing.
use mathlib.Core.Path.{◌≡◌}
use native.Mathlib.Omega.{arith}
use Rattle.planar.proofs.Pairs.{paired_none, paired_more}
use Rattle.ps_hybrid_analysis.proofs.filter.floats.Goals as goal

pub loop-t-init : goal.loop-t-init
loop-t-init c = record { within = omega arith; paired = paired_none _ _ }

pub loop-t-preserved : goal.loop-t-preserved
loop-t-preserved c =
    record {
      within = omega arith;
      paired = paired_more c.loop-t.invariant.paired c.pair-root.result c.pair-root.ensures (omega (arith, c.requires));
    }

pub returns : goal.returns
returns c = let all : c.loop-t.t ≡ c.args.order = omega arith in λ t u. c.loop-t.invariant.paired.each t (omega arith)
