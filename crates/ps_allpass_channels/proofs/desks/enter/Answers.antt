-- `ps_allpass_channels::desks::enter` meets its contract: samples of split bands, samples of the others, ducking factors. Assumes nothing.
use mathlib.Core.Path.{◌∙◌}
use native.Mathlib.Omega.{arith}
use Rattle.layout.proofs.Bounds.{bounds}
use Rattle.ps_allpass_channels.proofs.DeskReads.{same_chain, same_from, same_step}
use Rattle.ps_allpass_channels.proofs.DeskLaid.{entered}
use Rattle.ps_allpass_channels.proofs.desks.enter.Goals as goal

pub enter_split-requires : goal.enter_split-requires
enter_split-requires c =
    let b = bounds c.args.lent.layout in
    omega (arith, c.unsplit_from.ensures, b.delayed, b.all_pass, b.split)

pub returns : goal.returns
returns c =
    let a = c.args in
    let p = rw c.unsplit_from.ensures at c.enter_split.ensures in
    let q = c.enter_row.ensures in
    let r = c.enter_ducks.ensures in
    let e = entered a.lent.layout a.lent.samples.now a.lent.gains.now a.lent.input.now a.n p q r in record {
      samples = e.0;
      ducks = e.1;
      chains = λ k u. same_chain _ _ k (λ j v. r.before k j (omega arith) ∙ q.before k j (omega arith) ∙ p.before k j (omega arith));
      from = λ k u. same_from _ _ k (λ j v. r.before k j (omega arith) ∙ q.before k j v ∙ p.before k j v);
      step = λ k u. same_step _ _ k (λ j v. r.before k j (omega arith) ∙ q.before k j v ∙ p.before k j v);
    }
