-- `ps_allpass_channels::rows::added` meets its contract: the sum goes on from 0, by desks and then by channels, or by channels alone. Assumes nothing.
use mathlib.Core.Path.{◌≡◌, refl, ◌∙◌}
use Prim.Native.Nat.{◌*◌, ◌/◌, ◌%◌, ◌≤◌}
use native.Mathlib.Omega.{arith}
use Rattle.standard.proofs.Literals.{zero_is}
use Rattle.planar.proofs.Cells.{by_parts}
use Rattle.ps_allpass_channels.specs.Desks.{standing}
use Rattle.ps_allpass_channels.proofs.Sums.{none_yet}
use Rattle.ps_allpass_channels.proofs.rows.added.Goals as goal

pub returns-then-from-eq0 : goal.returns-then-from-eq0
returns-then-from-eq0 c =
    let a = c.args in
    let y = standing a.desks.now a.place in
    let whole : a.from % 4 ≡ 0 = c.if-from-eq0.true in
    let same : 4 * (a.from / 4) ≡ a.from = omega (arith, whole) in
    let least : a.from ≤ 4 * (a.end / 4) = omega (arith, whole, c.requires) in
    c.add_channels.ensures a.from least
    (c.add_desks-sum.ensures a.from (omega (arith, same)) (by_parts zero_is zero_is ∙ none_yet y a.from (4 * (a.from / 4)) same))

pub returns : goal.returns
returns c =
    let a = c.args in
    let y = standing a.desks.now a.place in
    c.add_channels-2.ensures a.from (omega arith) (by_parts zero_is zero_is ∙ none_yet y a.from a.from refl)
