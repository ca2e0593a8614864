-- `ps_allpass_groups::mixing::on_way` meets its contract: what is held stays, and what is not moves by its step. Assumes nothing.
use mathlib.Core.Path.{refl}
use borrow.Author.Rules.{rules}
use Rattle.ps_allpass_groups.proofs.mixing.on_way.Goals as goal

pub returns-then-held : goal.returns-then-held
returns-then-held c = rw c.if-held.true c.at-from.ensures

pub returns : goal.returns
returns c =
    rw (c.if-held.false, c.add.ensures, c.scale.ensures, c.all.ensures, c.at.ensures, c.at-from.ensures) refl
