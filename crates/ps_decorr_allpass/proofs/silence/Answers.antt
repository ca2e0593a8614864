-- `ps_decorr_allpass::silence` meets its contract: a turn clears its place or, where it is another lane's, passes it. Assumes nothing.
use Rattle.std.proofs.Common.{◌+◌, ◌%◌, sym, subst, ◌∙◌, arith}
use Rattle.std.proofs.lemmas.List.{set-get_or}
use lib.Ieee.{nan}
use Rattle.standard.proofs.Literals.{zero_is}
use Rattle.ps_decorr_allpass.proofs.Silenced.{Silenced, silenced_none, silenced_past, silenced_more, silenced_all}
use Rattle.ps_decorr_allpass.proofs.silence.Goals as goal
use Rattle.ps_decorr_allpass.proofs.silence.Goals.{then-lane-m, else-lane-m}

pub loop-m-init : goal.loop-m-init
loop-m-init c = silenced_none (λ m. m % 4) c.args.lane c.args.xs.now

pub loop-m-preserved : goal.loop-m-preserved
loop-m-preserved c =
    let l = c.loop-m in
    let a = c.args in
    elim c.if-lane-m.branch [
      | then-lane-m w ↦ subst (Silenced (λ m. m % 4) a.lane a.xs.now (l.m + 1)) (sym w.xs-is) (silenced_more l.invariant _ zero_is c.loop-m-test.true w.if-lane-m.true)
      | else-lane-m w ↦ subst (Silenced (λ m. m % 4) a.lane a.xs.now (l.m + 1)) (sym (w.xs-is ∙ set-get_or l.xs l.m nan)) (silenced_past l.invariant (l.m + 1) (λ m a b. omega (arith, w.if-lane-m.false)))
    ]

pub returns : goal.returns
returns c = silenced_all (λ m. m % 4) c.args.lane c.args.xs.now c.loop-m.m c.loop-m.xs c.loop-m.invariant c.loop-m-test.false
