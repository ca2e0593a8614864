-- `float_bytes::word_at` meets its contract: the bytes' number, or that of zeros. Assumes nothing.
use mathlib.Core.Path.{ap, ◌∙◌}
use mir.Syntax.{w64}
use Rattle.std.specs.Int.{from_le_bytes}
use Rattle.float_bytes.proofs.Turns.{word_read}
use Rattle.float_bytes.proofs.word_at.Goals as goal

pub returns : goal.returns
returns c = c.from_le_bytes.ensures ∙ ap (from_le_bytes w64) c.bytes_at.ensures ∙ word_read c.args.b.now c.args.at
