-- `ps_hybrid_analysis::band::ahead` meets its contract: after the turn j the first j slots are the history's and the input's. Assumes nothing.
use mathlib.Core.Path.{◌≡◌, refl}
use Prim.Native.Nat.{◌+◌, ◌-◌, ◌*◌}
use native.Mathlib.Omega.{arith}
use borrow.Author.Tests.{lt-ltb, le-ltb}
use Rattle.planar.specs.Cells.{cell}
use Rattle.ps_hybrid_analysis.proofs.Runs.{filled_more, filled_planar}
use Rattle.ps_hybrid_analysis.proofs.band.ahead.Goals as goal

pub loop-j-init : goal.loop-j-init
loop-j-init c =
    record {
      after = omega arith;
      within = omega arith;
      filled = record { long = refl; done = λ i u w. rw (lt-ltb i 6 u); rest = λ i u w. refl };
    }

pub loop-j-preserved : goal.loop-j-preserved
loop-j-preserved c =
    let j = c.loop-j.j in
    record {
      after = omega arith;
      within = omega arith;
      filled =
          filled_more c.loop-j.invariant.filled (cell 1 c.args.input.now (128 * (j - 6) + 2 * c.args.p))
          (rw (le-ltb j 6 c.loop-j.invariant.after)) (omega arith) (omega arith);
    }

pub returns : goal.returns
returns c =
    let all : c.loop-j.j ≡ c.args.count = omega arith in
    rw all at (filled_planar c.loop-j.invariant.filled (omega arith))
