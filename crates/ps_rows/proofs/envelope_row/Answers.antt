-- `ps_rows::envelope_row` meets its contract: before each turn the places that are filled, and what is left of the row, make the whole row. Assumes nothing.
use native.Mathlib.Omega.{arith}
use borrow.Author.Tests.{eq-eqb, ne_eqb}
use mathlib.Core.Path.{◌≡◌, sym, ap₂, ◌∙◌}
use mathlib.Core.Bool.{Bool, cond}
use mathlib.Core.List.{List, []}
use Prim.Native.Nat.{ℕ, ◌<◌}
use lib.Dec.{eqb}
use lib.IntN.{ℤ, pos}
use lib.ListN.{length, take, drop, get_or, length-take}
use lib.Seq.{get_or-take}
use mir.Syntax.{w8}
use mir.Val.{to_z, of_z}
use Rattle.integers.proofs.Bits.{back, via}
use Rattle.lists.proofs.Fills.{filled_more}
use Rattle.ps_rows.specs.Steps.{step}
use Rattle.ps_rows.specs.Rows.{deltas_of, row_of}
use Rattle.ps_rows.proofs.Places.{held_row}
use Rattle.ps_rows.proofs.Ranges.{deltas_length, row_length}
use Rattle.ps_rows.proofs.Turns.{delta_at, time_byte, begun, row_turn, row_end}
use Rattle.ps_rows.proofs.envelope_row.Goals as goal
use Rattle.ps_rows.proofs.envelope_row.Goals.{then-over_time, else-over_time}

pub loop-b-preserved : goal.loop-b-preserved
loop-b-preserved c =
    let a = c.args in
    let b : ℕ = c.loop-b.b in
    let deltas : List ℕ = deltas_of a.count (drop a.place a.bytes.now) in
    let old : List ℤ = take a.count a.old in
    let over_time : Bool = eqb c.byte_at-over_time.result 1 in
    let before : ℤ = cond over_time (get_or old b (pos 0)) (to_z w8 c.loop-b.previous-bits) in
    let inside : b < a.count = c.loop-b-test.true in
    let from : to_z w8 c.if-over_time.from-bits ≡ before =
    elim c.if-over_time.branch [
      | then-over_time w ↦ rw (eq-eqb _ _ w.if-over_time.true) (w.from-is ∙ back w8 (get_or a.old b (pos 0)) (omega arith) ∙ sym (get_or-take a.count a.old b (pos 0) inside))
      | else-over_time w ↦ rw (ne_eqb _ _ w.if-over_time.false) w.from-is
    ]
    in
    let index : to_z w8 (of_z w8 c.accumulate-previous.result) ≡ step a.kind before (get_or deltas b 0) =
    via w8 c.accumulate-previous.result _ c.accumulate-previous.type_inv c.accumulate-previous.ensures
    ∙ ap₂ (step a.kind) from (c.byte_at.ensures ∙ sym (delta_at a.count a.place b a.bytes.now inside))
    in
    let more : b < length deltas = rw deltas_length inside in
    let within : b < length old = simp length-take (omega (arith, inside)) in
    filled_more c.loop-b.invariant _ (row_turn a.kind old deltas b over_time _ _ more within index) (omega arith)

pub returns : goal.returns
unfolding row_of
returns c =
    let a = c.args in
    let bytes : List ℕ = drop a.place a.bytes.now in
    let old : List ℤ = take a.count a.old in
    let deltas : List ℕ = deltas_of a.count bytes in
    let tested : c.byte_at-over_time.result ≡ get_or bytes 0 0 = c.byte_at-over_time.ensures ∙ sym (time_byte a.place a.bytes.now) in
    let done : begun (eqb c.byte_at-over_time.result 1) a.kind (to_z w8 c.loop-b.previous-bits) (drop c.loop-b.b old) (drop c.loop-b.b deltas) ≡ [] =
    row_end a.kind old deltas c.loop-b.b _ _ (rw deltas_length (omega arith))
    in
    rw tested at (held_row a.count (rw done at c.loop-b.invariant) (rw tested (row_length a.kind a.count old bytes)) c.requires.0)
