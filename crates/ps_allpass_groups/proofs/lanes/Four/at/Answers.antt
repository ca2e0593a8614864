-- `ps_allpass_groups::lanes::Four::at` meets its contract. Assumes nothing.
use mathlib.Core.Path.{refl}
use borrow.Author.Rules.{rules}
use native.Mathlib.Nat.{add-zero}
use Rattle.ps_allpass_groups.proofs.lanes.Four.at.Goals as goal

pub returns : goal.returns
returns c = rw add-zero refl
