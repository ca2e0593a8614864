-- `borders::borders` meets its contract: after e turns the first e places hold the first e borders. Assumes nothing.
use mathlib.Core.Path.{◌≡◌, ◌∙◌}
use native.Mathlib.Omega.{arith}
use lib.ListN.{replicate}
use Rattle.limits.specs.Limits as limits
use Rattle.lists.proofs.Padded.{padded_written}
use Rattle.lists.proofs.Maps.{tabulated_none, tabulated_more}
use Rattle.borders.proofs.borders.Goals as goal

pub loop-e-init : goal.loop-e-init
loop-e-init c = tabulated_none _ (replicate limits.envelopes 0)

pub loop-e-preserved : goal.loop-e-preserved
loop-e-preserved c = tabulated_more c.loop-e.invariant c.border.result c.border.ensures (omega (arith, c.min-count.ensures))

pub returns : goal.returns
returns c =
    let few = c.min-count.ensures in
    let all : c.loop-e.e ≡ c.min-count.result = omega arith in
    padded_written 0 limits.envelopes c.loop-e.invariant.front (omega (arith, few)) ∙ rw (all, few, c.slots-within.ensures)
