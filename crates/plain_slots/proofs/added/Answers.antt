-- `plain_slots::added` meets its contract: after i turns the first i channels are added. Assumes nothing.
use mathlib.Core.Path.{◌≡◌, ap₂, ◌∙◌}
use native.Mathlib.Numerals.{add-one}
use native.Mathlib.Omega.{arith}
use Rattle.complex.specs.Operations.{sum}
use Rattle.planar.proofs.Cells.{by_parts}
use Rattle.standard.specs.Hybrid.{added_to}
use Rattle.standard.proofs.Literals.{zero_is}
use Rattle.plain_slots.proofs.added.Goals as goal

pub loop-i-init : goal.loop-i-init
unfolding added_to
loop-i-init c = (omega arith, by_parts zero_is zero_is)

pub loop-i-preserved : goal.loop-i-preserved
unfolding added_to
loop-i-preserved c =
    (omega arith, rw (add-one c.loop-i.i) (c.add-sum.ensures ∙ ap₂ sum c.loop-i.invariant.1 c.cell.ensures))

pub returns : goal.returns
returns c =
    let all : c.loop-i.i ≡ c.args.count = omega arith in
    rw all at c.loop-i.invariant.1
