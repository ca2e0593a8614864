-- `ps_state::switched` meets its contract: a state of the layout stays, any other loses its history. Assumes nothing.
use mathlib.Core.Path.{sym, ◌∙◌}
use native.Mathlib.Omega.{arith}
use borrow.Author.Rules.{rules}
use lib.Ieee.{of_bits}
use Rattle.ps_state.specs.Ready.{switched_from}
use Rattle.ps_state.proofs.Layouts.{equal_is}
use Rattle.ps_state.proofs.Steps.{changed_decoder}
use Rattle.ps_state.proofs.switched.Goals as goal

pub returns-then-eq : goal.returns-then-eq
unfolding switched_from
returns-then-eq c =
    let a = c.args in
    rw (sym (equal_is a.carried.layout a.layout c.eq.ensures) ∙ c.if-eq.true)

pub returns : goal.returns
unfolding of_bits
returns c =
    let a = c.args in
    changed_decoder a.layout a.carried a.sound.now _ _ (omega arith) (c.fill.ensures.after (search rules)) c.remap.ensures
    (sym (equal_is a.carried.layout a.layout c.eq.ensures) ∙ c.if-eq.false)
