use Rattle.ps_stereo.specs.Parts.{Scattered}
use Rattle.ps_stereo.proofs.scatter.Given as goal

abbrev pub invariant-loop-b : goal.invariant-loop-b
invariant-loop-b l = Scattered l.c l.part l.b l.initial.matrices l.matrices
