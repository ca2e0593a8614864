use Rattle.std.proofs.Common.{◌+◌, ◌*◌}
use lib.IntN.{pos}
use lib.ListN.{get_or}
use Rattle.exact_numbers.specs.Numbers.{kept_pair}
use Rattle.lists.proofs.Maps.{Tabulated}
use Rattle.ps_memory.proofs.lines.pack.Given as goal

abbrev pub invariant-loop-i : goal.invariant-loop-i
invariant-loop-i l = Tabulated (λ k. kept_pair (get_or l.from (2 * k) (pos 0)) (get_or l.from (2 * k + 1) (pos 0))) l.i l.initial.to l.to
