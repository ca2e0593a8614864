-- `ps_hybrid_analysis::plan::turn` meets its contract: each return is its prototype's case, and a remainder is below the order. Assumes nothing.
use Prim.Native.Nat.{◌+◌, ◌*◌}
use native.Mathlib.Omega.{arith}
use Rattle.ps_hybrid_analysis.proofs.Spans.{product_most}
use Rattle.ps_hybrid_analysis.proofs.plan.turn.Goals as goal

pub overflow_mul-odd-2 : goal.overflow_mul-odd-2
overflow_mul-odd-2 c = omega (arith, product_most (2 * c.args.q + 1) (c.args.m + 42) (omega arith) (omega arith))

pub overflow_mul-quarter-2 : goal.overflow_mul-quarter-2
overflow_mul-quarter-2 c = omega (arith, product_most (4 * c.args.q) (c.args.m + 42) (omega arith) (omega arith))

pub returns-in-EighthsOfBand0 : goal.returns-in-EighthsOfBand0
returns-in-EighthsOfBand0 c = (rw c.in-EighthsOfBand0.is, omega arith)

pub returns-in-Halves : goal.returns-in-Halves
returns-in-Halves c = (rw c.in-Halves.is, omega arith)

pub returns-in-Twelfths : goal.returns-in-Twelfths
returns-in-Twelfths c = (rw c.in-Twelfths.is, omega arith)

pub returns-in-EighthsOfBand1 : goal.returns-in-EighthsOfBand1
returns-in-EighthsOfBand1 c = (rw c.in-EighthsOfBand1.is, omega arith)

pub returns-in-Quarters : goal.returns-in-Quarters
returns-in-Quarters c = (rw c.in-Quarters.is, omega arith)
