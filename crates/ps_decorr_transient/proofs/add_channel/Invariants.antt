use Rattle.std.proofs.Common.{◌+◌, ◌*◌}
use Rattle.planar.specs.Cells.{cell}
use Rattle.ps_decorr_transient.specs.Rows.{Rowed, added}
use Rattle.ps_decorr_transient.proofs.add_channel.Given as goal

abbrev pub invariant-loop-n : goal.invariant-loop-n
invariant-loop-n g l = Rowed l.b (l.b + 1) l.n (added l.initial.gains (λ m. cell g.row.APART l.samples (g.row.STEP * m + l.from))) l.initial.gains l.gains
