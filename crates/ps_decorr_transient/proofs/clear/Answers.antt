-- `ps_decorr_transient::clear` meets its contract: each turn clears one row more. Assumes nothing.
use mathlib.Core.Path.{◌≡◌, refl}
use native.Mathlib.Omega.{arith}
use Rattle.std.proofs.Common.{◌+◌, ◌-◌, ◌*◌, rules}
use Rattle.standard.proofs.Literals.{zero_is}
use Rattle.ps_decorr_transient.proofs.Rows.{rowed_none, rowed_and, rowed_filled}
use Rattle.ps_decorr_transient.proofs.clear.Goals as goal

pub loop-b-init : goal.loop-b-init
loop-b-init c = rowed_none _ _ _ _

pub loop-b-preserved : goal.loop-b-preserved
loop-b-preserved c =
    let l = c.loop-b in
    let slots = c.args.slots in
    let w = 32 * l.b + slots - 32 * l.b in
    rowed_and l.invariant
    (rowed_filled l.b slots (32 * l.b) w _ l.gains _ zero_is refl (omega arith) (omega arith) (omega (arith, l.invariant.long)) (c.fill.ensures.after (search rules)))
    (omega arith) (omega arith) (omega arith)

pub returns : goal.returns
returns c =
    let e : c.loop-b.b ≡ c.args.bands = omega arith in
    rw e at c.loop-b.invariant
