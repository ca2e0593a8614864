-- `ps_allpass_channels::rows::lay` meets its contract: the band's two numbers are stored. Assumes nothing.
use mathlib.Core.Path.{refl}
use native.Mathlib.Omega.{arith}
use Rattle.ps_allpass_channels.proofs.Leaving.{rowed_none, rowed_more}
use Rattle.ps_allpass_channels.proofs.rows.lay.Goals as goal

pub returns : goal.returns
returns c =
    let a = c.args in
    rowed_more (λ _. a.y) a.q a.q a.row.now a.row.now a.y (rowed_none (λ _. a.y) a.q a.row.now) refl (omega arith) (omega arith)
