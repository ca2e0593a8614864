-- `ps_decorr::clear_ring` meets its contract: in row after row the first columns are passed and the others cleared. Assumes nothing.
use Rattle.std.proofs.Common.{◌≡◌, ℕ, ◌+◌, ◌-◌, ◌*◌, ◌%◌, ◌≤◌, length, subst, arith, rules}
use Rattle.lists.specs.Part.{put}
use Rattle.standard.proofs.Literals.{zero_is}
use Rattle.ps_decorr_allpass.proofs.Silenced.{Silenced, silenced_none, silenced_all}
use Rattle.ps_decorr.proofs.Silenced.{filled, silenced_run}
use Rattle.ps_decorr.proofs.clear_ring.Goals as goal

pub loop-row-init : goal.loop-row-init
loop-row-init c = silenced_none _ _ _

pub loop-row-preserved : goal.loop-row-preserved
loop-row-preserved c =
    let l = c.loop-row in
    let column = c.args.column in
    let a = 24 * l.row + column in
    let w = 24 * l.row + 24 - a in
    let room : a + w ≤ length l.ring = omega (arith, l.invariant.long) in
    let end : a + w ≡ 24 * (l.row + 1) = omega arith in
    subst (λ (n : ℕ). Silenced (λ m. m % 24) column c.args.ring.now n (put a w l.ring c.fill.new.self)) end
    (silenced_run l.invariant a w (omega arith) room (λ m u h. omega arith) (λ m u h. omega arith) _
    (filled a w l.ring _ _ zero_is (c.fill.ensures.after (search rules))))

pub returns : goal.returns
returns c = silenced_all _ _ _ (24 * c.loop-row.row) _ c.loop-row.invariant (omega arith)
