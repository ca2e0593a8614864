-- `ps_allpass_groups::mixing::mix` meets its contract: its operations are those of the definitions, lane by lane. Assumes nothing.
use mathlib.Core.Path.{◌∙◌, ap₂}
use mathlib.Core.List.{◌++◌}
use borrow.Author.Rules.{rules}
use native.Mathlib.Omega.{arith}
use Rattle.lists.specs.Part.{put}
use Rattle.ps_allpass_groups.specs.declared.lanes.Pair.{Pair}
use Rattle.ps_allpass_groups.specs.Lanes.{flat}
use Rattle.ps_allpass_groups.proofs.Sides.{both_put, is_left, is_right}
use Rattle.ps_allpass_groups.proofs.mixing.mix.Goals as goal

pub on_way-requires-4 : goal.on_way-requires-4
on_way-requires-4 c = (c.requires, omega arith)

pub slice_bounds-put-end : goal.slice_bounds-put-end
slice_bounds-put-end c =
    omega (arith, c.requires)

pub slice_bounds-put-end-2 : goal.slice_bounds-put-end-2
slice_bounds-put-end-2 c =
    omega arith

pub returns : goal.returns
returns c =
    let a = c.args in
    let desk = a.desk.now in
    both_put desk c.put.new.xs c.put-2.new.xs c.add-left.result c.add-right.result c.requires c.put.ensures c.put-2.ensures
    ∙ ap₂ (λ (l r : Pair). put 120 16 desk (flat l ++ flat r))
    (is_left desk a.t a.held a.marks a.s a.d c.taken-h11.ensures c.mul.ensures c.taken-h21.ensures c.mul-2.ensures c.add-left.ensures
    c.on_way.ensures c.on_way-3.ensures)
    (is_right desk a.t a.held a.marks a.s a.d c.taken-h12.ensures c.mul-3.ensures c.taken-h22.ensures c.mul-4.ensures c.add-right.ensures
    c.on_way-2.ensures c.on_way-4.ensures)
