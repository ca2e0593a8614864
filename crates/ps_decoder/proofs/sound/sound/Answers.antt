-- `ps_decoder::sound` meets its contract: the coefficients, then the stages. Assumes nothing.
use mathlib.Core.Path.{◌≡◌, ap, ◌∙◌}
use Prim.Native.Nat.{ℕ, ◌+◌, ◌%◌}
use native.Mathlib.Nat.{mod-add-mod}
use native.Mathlib.Omega.{arith}
use Rattle.ps_state.specs.declared.PsDecoder.{PsDecoder}
use Rattle.ps_state.specs.State.{decoder_in}
use Rattle.ps_decoder.proofs.Assembled.{Timed, remade_in, left_is, right_is, state_is}
use Rattle.ps_decoder.proofs.sound.sound.Goals as goal

-- the slots so far, counted on from their remainder
turned : (turn slots asked : ℕ) → slots ≡ asked → (turn % 420 + slots) % 420 ≡ (turn + asked) % 420
turned turn slots asked is = mod-add-mod turn 420 slots ∙ ap (λ (n : ℕ). (turn + n) % 420) is

pub returns : goal.returns
returns c =
    let a = c.args in
    let s : PsDecoder = decoder_in a.carried a.sound.now in
    let mixed = c.mixed.ensures in
    let timed : Timed s a.resolved.header a.resolved.indices a.resolved.positions a.input.now a.left.now a.right.now _ _ _ _ _
    = record {
      slots_are = c.slots-slots.ensures;
      rows_are = mixed.rows;
      matrices_are = mixed.matrices;
      phases_are = mixed.phases;
      places_are = rw c.from-count.ensures at c.borders-borders.ensures;
    } in
    let made = remade_in a.carried a.sound.now c.mixed.new.matrices (omega arith) c.mixed.auto.matrices in
    let after = rw c.from-count.ensures at c.stages.ensures in
    record {
      state =
          state_is s a.resolved.header a.resolved.indices a.resolved.positions a.input.now a.left.now a.right.now timed made after a.resolved.lines _
          (turned a.carried.turn _ _ c.slots-slots.ensures);
      left_rows = left_is s a.resolved.header a.resolved.indices a.resolved.positions a.input.now a.left.now a.right.now timed made after;
      right_rows = right_is s a.resolved.header a.resolved.indices a.resolved.positions a.input.now a.left.now a.right.now timed made after;
    }
