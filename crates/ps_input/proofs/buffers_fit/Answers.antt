-- `ps_input::buffers_fit` meets its contract: each `&&` of the code is the definition's. Assumes nothing.
use mathlib.Core.Path.{◌≡◌, ◌∙◌}
use mathlib.Core.Bool.{◌&&◌}
use Prim.Native.Nat.{◌+◌, ◌*◌, ◌%◌}
use borrow.Author.Tests.{eq-eqb, ne_eqb}
use lib.Dec.{eqb, leb}
use Rattle.ps_input.proofs.Answers.{all_fit}
use Rattle.ps_input.proofs.buffers_fit.Goals as goal
use Rattle.ps_input.proofs.buffers_fit.Goals.{then-input-eq0, else-input-eq0, then-input-slots, else-input-slots}

pub returns-then-left-slots : goal.returns-then-left-slots
returns-then-left-slots c =
    let a = c.args in
    let rows : c.if-input-eq0.value ≡ eqb (a.input % 128) 0 && leb (128 * (a.slots + 6)) a.input =
    elim c.if-input-eq0.branch [
      | then-input-eq0 w ↦ w.value-is ∙ rw (eq-eqb (a.input % 128) 0 w.if-input-eq0.true)
      | else-input-eq0 w ↦ w.value-is ∙ rw (ne_eqb (a.input % 128) 0 w.if-input-eq0.false)
    ] in
    let lefts : c.if-input-slots.value ≡ c.if-input-eq0.value && eqb a.left (128 * a.slots) =
    elim c.if-input-slots.branch [
      | then-input-slots w ↦ w.value-is ∙ rw w.if-input-slots.true
      | else-input-slots w ↦ w.value-is ∙ rw w.if-input-slots.false
    ] in
    rw c.if-left-slots.true at (all_fit a.slots a.input a.left a.right rows lefts)

pub returns-else-left-slots : goal.returns-else-left-slots
returns-else-left-slots c =
    let a = c.args in
    let rows : c.if-input-eq0.value ≡ eqb (a.input % 128) 0 && leb (128 * (a.slots + 6)) a.input =
    elim c.if-input-eq0.branch [
      | then-input-eq0 w ↦ w.value-is ∙ rw (eq-eqb (a.input % 128) 0 w.if-input-eq0.true)
      | else-input-eq0 w ↦ w.value-is ∙ rw (ne_eqb (a.input % 128) 0 w.if-input-eq0.false)
    ] in
    let lefts : c.if-input-slots.value ≡ c.if-input-eq0.value && eqb a.left (128 * a.slots) =
    elim c.if-input-slots.branch [
      | then-input-slots w ↦ w.value-is ∙ rw w.if-input-slots.true
      | else-input-slots w ↦ w.value-is ∙ rw w.if-input-slots.false
    ] in
    c.if-left-slots.false ∙ (rw c.if-left-slots.false at (all_fit a.slots a.input a.left a.right rows lefts))
