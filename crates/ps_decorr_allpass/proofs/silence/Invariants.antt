use Rattle.std.proofs.Common.{◌%◌}
use Rattle.ps_decorr_allpass.proofs.Silenced.{Silenced}
use Rattle.ps_decorr_allpass.proofs.silence.Given as goal

abbrev pub invariant-loop-m : goal.invariant-loop-m
invariant-loop-m l = Silenced (λ m. m % 4) l.lane l.initial.xs l.m l.xs
