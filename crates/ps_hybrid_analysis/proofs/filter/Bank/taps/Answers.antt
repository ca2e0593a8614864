-- `ps_hybrid_analysis::filter::Bank::taps` meets its contract: after m turns the first m taps stand. Assumes nothing.
use native.Mathlib.Omega.{arith}
use Rattle.ps_hybrid_analysis.proofs.Runs.{filled_none, filled_more, filled_all}
use Rattle.ps_hybrid_analysis.proofs.filter.Bank.taps.Goals as goal

pub loop-m-init : goal.loop-m-init
loop-m-init c = record { within = omega arith; filled = filled_none _ _ _ }

pub modulated-v-requires : goal.modulated-v-requires
modulated-v-requires c = (c.requires, omega arith)

pub loop-m-preserved : goal.loop-m-preserved
loop-m-preserved c =
    record {
      within = omega arith;
      filled =
          filled_more c.loop-m.invariant.filled c.modulated-v.result c.modulated-v.ensures (omega arith) (omega arith);
    }

pub returns : goal.returns
returns c = filled_all c.loop-m.invariant.filled (omega arith) (omega arith)
