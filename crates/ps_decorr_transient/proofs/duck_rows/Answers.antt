-- `ps_decorr_transient::duck_rows` meets its contract: each turn is four bands more, and then one. Assumes nothing.
use mathlib.Core.Path.{◌≡◌}
use native.Mathlib.Omega.{arith}
use Rattle.std.proofs.Common.{◌+◌, ◌*◌, ◌/◌}
use Rattle.ps_decorr_transient.proofs.Ducks.{ducked_none, ducked_and}
use Rattle.ps_decorr_transient.proofs.duck_rows.Goals as goal

pub loop-g-init : goal.loop-g-init
loop-g-init c = ducked_none _ _ _ _

pub loop-g-preserved : goal.loop-g-preserved
loop-g-preserved c =
    let e : 4 * c.loop-g.g + 4 ≡ 4 * (c.loop-g.g + 1) = omega arith in
    rw e at (ducked_and c.loop-g.invariant c.duck_four.ensures (omega arith) (omega arith) (omega (arith, c.requires)))

pub loop-b-init : goal.loop-b-init
loop-b-init c = ducked_none _ _ _ _

pub loop-b-preserved : goal.loop-b-preserved
loop-b-preserved c = ducked_and c.loop-b.invariant c.duck_row.ensures (omega arith) (omega arith) (omega (arith, c.requires))

pub returns : goal.returns
returns c =
    let fours : c.loop-g.g ≡ c.args.bands / 4 = omega arith in
    let e : c.loop-b.b ≡ c.args.bands = omega arith in
    rw e at (ducked_and (rw fours at c.loop-g.invariant) c.loop-b.invariant (omega arith) (omega arith) (omega (arith, c.requires)))
