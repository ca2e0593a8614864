-- `of_two` of indices meets its contract: it is the average of a sum of two indices. Assumes nothing.
use native.Mathlib.Omega.{arith}
use Rattle.ps_map.proofs.Averages.{one, plus, average}
use Rattle.ps_map.proofs.sources.I8Averaged.of_two.Goals as goal

pub returns : goal.returns
returns c = average (plus (one c.from.ensures c.ranges.a) (one c.from-2.ensures c.ranges.b) (omega arith))
