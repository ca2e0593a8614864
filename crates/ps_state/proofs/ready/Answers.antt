-- `ps_state::ready` meets its contract: switched, then the delays cleared from the place on. Assumes nothing.
use mathlib.Core.Path.{ap, ◌∙◌}
use mathlib.Core.List.{List}
use native.Mathlib.Omega.{arith}
use lib.Ieee.{Float}
use borrow.Author.Tests.{ne_eqb}
use Rattle.ps_state.specs.State.{sound_long, decoder_in}
use Rattle.ps_state.specs.Ready.{ready_in, switched_from}
use Rattle.ps_state.proofs.Steps.{made_ready}
use lib.ListN.{length}
use Rattle.ps_state.proofs.ready.Goals as goal

pub returns-in_default : goal.returns-in_default
unfolding ready_in
returns-in_default c = rw (ne_eqb (length c.args.sound.now) sound_long c.in_default.ensures.cases)

pub returns : goal.returns
returns c =
    let a = c.args in
    let whole = c.in-Some.ensures.cases in
    let after = c.switched-after in
    made_ready a.layout c.cleared_place-place.result after.result after.new.sound _ _ (omega arith) c.reset_chains.ensures
    c.reset_plain.ensures a.edge c.cleared_place-place.ensures a.carried a.sound.now whole.long
    (after.ensures ∙ ap (λ (t : List Float). switched_from a.layout (decoder_in a.carried t)) whole.same)
