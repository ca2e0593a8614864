use Rattle.std.proofs.Common.{◌*◌}
use Rattle.ps_decorr_transient.specs.Rows.{Ducked}
use Rattle.ps_decorr_transient.proofs.duck_rows.Given as goal

abbrev pub invariant-loop-g : goal.invariant-loop-g
invariant-loop-g l = Ducked 0 (4 * l.g) l.slots l.initial.detectors l.initial.gains l.detectors l.gains

abbrev pub invariant-loop-b : goal.invariant-loop-b
invariant-loop-b l = Ducked (4 * l.fours) l.b l.slots l.initial.detectors l.initial.gains l.detectors l.gains
