use Rattle.std.proofs.Common.{◌*◌, ◌%◌}
use Rattle.ps_decorr_allpass.proofs.Silenced.{Silenced}
use Rattle.ps_decorr.proofs.clear_ring.Given as goal

abbrev pub invariant-loop-row : goal.invariant-loop-row
invariant-loop-row l = Silenced (λ m. m % 24) l.column l.initial.ring (24 * l.row) l.ring
