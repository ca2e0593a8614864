-- `text_lines::hold` meets its contract: as much of the part is copied as there is room for. Assumes nothing.
use Rattle.std.proofs.Common.{rules, arith}
use Rattle.text_lines.proofs.Room.{copied_laid}
use Rattle.text_lines.proofs.hold.Goals as goal

pub returns : goal.returns
returns c = copied_laid _ _ _ _ _ _ _ c.min-place.ensures c.min-size.ensures (omega arith) (search rules)
