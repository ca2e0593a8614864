use Rattle.std.proofs.Common.{◌*◌}
use lib.Ieee.{nan}
use lib.ListN.{get_or}
use Rattle.lists.proofs.Rows.{Rowed}
use Rattle.ps_memory.specs.Packed.{both}
use Rattle.ps_memory.proofs.lines.unpack.Given as goal

abbrev pub invariant-loop-i : goal.invariant-loop-i
invariant-loop-i l = Rowed (λ k. both (get_or l.from k nan)) l.i (2 * l.i) l.initial.to l.to
