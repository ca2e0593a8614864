-- `ps_decorr_transient::add_channel` meets its contract: each turn adds one slot's power to what stood there. Assumes nothing.
use mathlib.Core.Path.{refl}
use native.Mathlib.Omega.{arith}
use Rattle.standard.specs.Numbers.{◌⊕◌}
use Rattle.ps_decorr_transient.specs.Rows.{added}
use Rattle.ps_decorr_transient.proofs.Rows.{rowed_next, rowed_more}
use Rattle.ps_decorr_transient.proofs.add_channel.Goals as goal

pub loop-n-preserved : goal.loop-n-preserved
unfolding added ◌⊕◌
loop-n-preserved g c =
    let r = c.loop-n.invariant in
    rowed_more r _ _ refl (rw (rowed_next r (omega arith) c.args.b _ refl)) (omega arith) (omega arith)
