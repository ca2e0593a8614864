-- `ps_decorr_transient::duck_four` meets its contract: in each slot each of the four bands takes the turn of `duck_row`. Assumes nothing.
use mathlib.Core.Path.{◌≡◌, refl, sym, ◌∙◌}
use Prim.Native.Nat.{◌+◌, ◌*◌}
use native.Mathlib.Omega.{arith}
use Rattle.ps_decorr_transient.specs.Rows.{state_of}
use Rattle.ps_decorr_transient.proofs.Detectors.{detected_none, detected_more}
use Rattle.ps_decorr_transient.proofs.Ducks.{turn}
use Rattle.ps_decorr_transient.proofs.Rows.{rowed_start, rowed_slot, slotted_none}
use Rattle.ps_decorr_transient.proofs.Slots.{state_none}
use Rattle.ps_decorr_transient.proofs.duck_four.Goals as goal

pub loop-n-init : goal.loop-n-init
loop-n-init c =
    record {
      within = omega arith;
      one = c.recall-first.ensures ∙ sym (state_none _ _ _);
      two = c.recall-second.ensures ∙ sym (state_none _ _ _);
      three = c.recall-third.ensures ∙ sym (state_none _ _ _);
      four = c.recall-fourth.ensures ∙ sym (state_none _ _ _);
      rows = rowed_start _ _ _ _;
    }

pub loop-n-preserved : goal.loop-n-preserved
loop-n-preserved c =
    let s = c.args in
    let v = c.loop-n.invariant in
    let m = s.detectors.now in
    let g = s.gains.now in
    let b = s.b in
    let i = 32 * s.b + c.loop-n.n in
    let one = turn m g v.rows (slotted_none b c.loop-n.n _ c.loop-n.gains) v.one (b + 1) i c.step-first.ensures c.factor.ensures refl (omega arith) (omega arith) in
    let two = turn m g v.rows one.1 v.two (b + 2) (i + 32) c.step-second.ensures c.factor-in-loop-n.ensures (omega arith) (omega arith) (omega arith) in
    let three = turn m g v.rows two.1 v.three (b + 3) (i + 64) c.step-third.ensures c.factor-in-loop-n-2.ensures (omega arith) (omega arith) (omega arith) in
    let four = turn m g v.rows three.1 v.four (b + 4) (i + 96) c.step-fourth.ensures c.factor-in-loop-n-3.ensures (omega arith) (omega arith) (omega arith) in
    record {
      within = omega arith;
      one = one.0;
      two = two.0;
      three = three.0;
      four = four.0;
      rows = rowed_slot v.rows (omega arith) four.1;
    }

pub returns : goal.returns
returns c =
    let s = c.args in
    let v = c.loop-n.invariant in
    let b = s.b in
    let e : c.loop-n.n ≡ s.slots = omega arith in
    let none = detected_none b (state_of s.detectors.now s.gains.now s.slots) s.detectors.now in
    let one = detected_more none (b + 1) refl c.keep.ensures (rw e at v.one) (omega arith) in
    let two = detected_more one (b + 2) (omega arith) c.keep-2.ensures (rw e at v.two) (omega arith) in
    let three = detected_more two (b + 3) (omega arith) c.keep-3.ensures (rw e at v.three) (omega arith) in
    record {
      detectors = detected_more three (b + 4) (omega arith) c.keep-4.ensures (rw e at v.four) (omega arith);
      rows = rw e at v.rows;
    }
