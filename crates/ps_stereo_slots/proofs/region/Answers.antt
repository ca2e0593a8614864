-- `ps_stereo_slots::region` meets its contract: each turn stores from + step t in one slot more. Assumes nothing.
use mathlib.Core.Logic.{inl, inr}
use native.Mathlib.Omega.{arith}
use Rattle.standard.specs.Interpolation.{towards, between}
use Rattle.ps_stereo_slots.proofs.Filled.{written_none, written_more, written_all}
use Rattle.ps_stereo_slots.proofs.region.Goals as goal

pub loop-n-init : goal.loop-n-init
loop-n-init c = (omega arith, inl (omega arith), written_none _ _ _ (omega arith))

pub loop-n-preserved : goal.loop-n-preserved
loop-n-preserved c =
    let s = c.args in (
      omega arith,
      inr (omega arith),
      rw c.put.ensures (written_more c.loop-n.invariant.2 c.stepped.result c.stepped.ensures (omega arith) (omega arith)),
    )

pub returns : goal.returns
unfolding between towards
returns c =
    let s = c.args in
    rw c.step-way.ensures at (written_all c.loop-n.invariant.2 s.end (omega arith) c.loop-n.invariant.1)
