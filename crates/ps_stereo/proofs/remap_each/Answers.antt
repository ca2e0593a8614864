-- `ps_stereo::remap_each` meets its contract: each turn reads one of the eight parts, which no turn before it wrote, and writes it, mapped. Assumes nothing.
use mathlib.Core.Path.{ap, ◌∙◌}
use mathlib.Core.List.{List}
use native.Mathlib.Omega.{arith}
use lib.Ieee.{Float}
use Rattle.ps_map.specs.Maps.{map_coefficients}
use Rattle.ps_stereo.specs.State.{remapped_to}
use Rattle.ps_stereo.proofs.Parts.{remapped_none, remapped_part, remapped_more, remapped_all}
use Rattle.ps_stereo.proofs.remap_each.Goals as goal

pub loop-c-init : goal.loop-c-init
loop-c-init c = remapped_none _ _ (omega arith)

pub loop-c-preserved : goal.loop-c-preserved
loop-c-preserved c =
    let v = c.loop-c.invariant in
    remapped_more v c.map_coefficients-mapped.result _ c.loop-c-test.true
    (c.map_coefficients-mapped.ensures
    ∙ ap (λ (p : List Float). map_coefficients p c.args.layout) (c.gathered.ensures ∙ remapped_part v c.loop-c-test.true))
    c.scatter.ensures

pub returns : goal.returns
unfolding remapped_to
returns c = remapped_all c.loop-c.invariant c.loop-c-test.false
