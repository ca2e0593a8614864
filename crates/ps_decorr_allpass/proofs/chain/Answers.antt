-- `ps_decorr_allpass::chain` meets its contract: each constant is made as the definition makes it. Assumes nothing.
use Rattle.std.proofs.Common.{◌≡◌, ◌+◌, ◌*◌, arith, rules}
use Rattle.decimals.specs.Decorrelation.{all_pass}
use Rattle.standard.specs.Channel.{chain_from}
use Rattle.standard.specs.Numbers.{◌⊗◌}
use Rattle.ps_decorr_allpass.proofs.chain.Goals as goal

pub returns : goal.returns
unfolding chain_from all_pass ◌⊗◌
returns c =
    let k = c.args.k in
    let at0 : 8 * k + 0 ≡ 8 * k = omega arith in
    let at1 : 8 * k + 2 + 2 ≡ 8 * k + 4 = omega arith in
    let at2 : 8 * k + 4 + 2 ≡ 8 * k + 6 = omega arith in
    rw (
      c.rotation-4.ensures,
      c.rotation-3.ensures,
      c.rotation-2.ensures,
      c.rotation.ensures,
      c.decay-g.ensures,
      c.all_pass-a.ensures,
      at0,
      at1,
      at2,
    )
