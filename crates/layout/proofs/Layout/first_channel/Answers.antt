-- `layout::Layout::first_channel` meets its contract: behind the split bands' channels the tables end. Assumes nothing.
use Rattle.std.proofs.Common.{sym, arith, [], ◌∷◌}
use Rattle.std.proofs.lemmas.List.{get_or_past}
use Rattle.layout.proofs.Layout.first_channel.Goals as goal

pub returns-in_default : goal.returns-in_default
returns-in_default c = rw c.in-Bands20.is (sym (get_or_past (0 ∷ 6 ∷ 8 ∷ []) c.args.p 10 (omega arith)))

pub returns-in_default-p : goal.returns-in_default-p
returns-in_default-p c = rw c.in-Bands34.is (sym (get_or_past (0 ∷ 12 ∷ 20 ∷ 24 ∷ 28 ∷ []) c.args.p 32 (omega arith)))
