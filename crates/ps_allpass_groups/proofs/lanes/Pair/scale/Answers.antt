-- `ps_allpass_groups::lanes::Pair::scale` meets its contract, part by part. Assumes nothing.
use mathlib.Core.Path.{refl}
use borrow.Author.Rules.{rules}
use Rattle.ps_allpass_groups.proofs.lanes.Pair.scale.Goals as goal

pub returns : goal.returns
returns c = rw (c.mul-2.ensures, c.mul.ensures) refl
