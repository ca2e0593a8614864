-- `ps_stereo_slots::hold` meets its contract: each turn stores the coefficients in one slot more. Assumes nothing.
use mathlib.Core.Path.{refl}
use mathlib.Core.Logic.{inl, inr}
use native.Mathlib.Omega.{arith}
use Rattle.ps_stereo_slots.proofs.Filled.{written_none, written_more, written_all}
use Rattle.ps_stereo_slots.proofs.hold.Goals as goal

pub loop-n-init : goal.loop-n-init
loop-n-init c = (omega arith, inl (omega arith), written_none _ _ _ (omega arith))

pub loop-n-preserved : goal.loop-n-preserved
loop-n-preserved c =
    (omega arith, inr (omega arith), rw c.put.ensures (written_more c.loop-n.invariant.2 c.args.h refl (omega arith) (omega arith)))

pub returns : goal.returns
returns c =
    written_all c.loop-n.invariant.2 c.args.end (omega arith) c.loop-n.invariant.1
