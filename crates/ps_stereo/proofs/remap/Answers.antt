-- `ps_stereo::remap` meets its contract: coefficients of another number of bands stay. Assumes nothing.
use mathlib.Core.Path.{◌≡◌, ap, ◌∙◌}
use borrow.Author.Tests.{eq-eqb, ne_eqb}
use lib.ListN.{length}
use Rattle.ps_stereo.specs.State.{remapped_to, remapped_in}
use Rattle.ps_stereo.proofs.remap.Goals as goal

pub returns-in-Some : goal.returns-in-Some
unfolding remapped_in
returns-in-Some c =
    let whole = c.in-Some.ensures.cases in
    c.remap_each.ensures ∙ ap (remapped_to c.args.layout) whole.same ∙ rw (eq-eqb (length c.args.matrices.now) 272 whole.long)

pub returns-in_default : goal.returns-in_default
unfolding remapped_in
returns-in_default c = rw (ne_eqb (length c.args.matrices.now) 272 c.in_default.ensures.cases)
