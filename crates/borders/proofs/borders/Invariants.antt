use lib.ListN.{replicate}
use Rattle.limits.specs.Limits as limits
use Rattle.lists.proofs.Maps.{Tabulated}
use Rattle.borders.specs.Borders.{border_of}
use Rattle.borders.proofs.borders.Given as goal

-- the first e places hold the first e borders
abbrev pub invariant-loop-e : goal.invariant-loop-e
invariant-loop-e l = Tabulated (border_of l.within l.variable l.count l.positions) l.e (replicate limits.envelopes 0) l.out
