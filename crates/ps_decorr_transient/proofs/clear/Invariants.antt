use Rattle.standard.specs.Numbers as numbers
use Rattle.ps_decorr_transient.specs.Rows.{Rowed}
use Rattle.ps_decorr_transient.proofs.clear.Given as goal

abbrev pub invariant-loop-b : goal.invariant-loop-b
invariant-loop-b l = Rowed 0 l.b l.slots (λ i n. numbers.zero) l.initial.gains l.gains
