-- `ps_decorr_transient::duck_row` meets its contract: after n slots the follower is the detector after n, and n powers have given way. Assumes nothing.
use mathlib.Core.Path.{◌≡◌, refl, sym, ◌∙◌}
use Prim.Native.Nat.{◌+◌, ◌*◌}
use native.Mathlib.Omega.{arith}
use Rattle.ps_decorr_transient.proofs.Detectors.{detected_none, detected_more}
use Rattle.ps_decorr_transient.proofs.Ducks.{turn}
use Rattle.ps_decorr_transient.proofs.Rows.{rowed_start, rowed_slot, slotted_none}
use Rattle.ps_decorr_transient.proofs.Slots.{state_none}
use Rattle.ps_decorr_transient.proofs.duck_row.Goals as goal

pub loop-n-init : goal.loop-n-init
loop-n-init c = (omega arith, c.recall-one.ensures ∙ sym (state_none _ _ _), rowed_start _ _ _ _)

pub loop-n-preserved : goal.loop-n-preserved
loop-n-preserved c =
    let s = c.args in
    let n = c.loop-n.n in
    let r = c.loop-n.invariant.2 in
    let e = c.step-one.ensures in
    let one = turn s.detectors.now s.gains.now r (slotted_none s.b n _ c.loop-n.gains) c.loop-n.invariant.1 (s.b + 1) (32 * s.b + n) e c.factor.ensures refl (omega arith) (omega arith) in
    (omega arith, one.0, rowed_slot r (omega arith) one.1)

pub returns : goal.returns
returns c =
    let s = c.args in
    let e : c.loop-n.n ≡ s.slots = omega arith in
    record {
      detectors = detected_more (detected_none _ _ _) _ refl c.keep.ensures (rw e at c.loop-n.invariant.1) (omega arith);
      rows = rw e at c.loop-n.invariant.2;
    }
