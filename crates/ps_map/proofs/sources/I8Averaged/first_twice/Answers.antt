-- `first_twice` of indices meets its contract: it is the average of a sum of three indices, two of which are the first. Assumes nothing.
use native.Mathlib.Omega.{arith}
use lib.IntN.{pos, ◌*ℤ◌}
use Rattle.ps_map.proofs.Averages.{in32, Sum, one, twice, plus, in_bits, average}
use Rattle.ps_map.proofs.sources.I8Averaged.first_twice.Goals as goal

pub returns : goal.returns
returns c =
    let doubled : Sum (pos 2 *ℤ in32 c.from.result) (pos 2 *ℤ c.args.a) 2 = twice (one c.from.ensures c.ranges.a) (omega arith) in
    average (plus (in_bits doubled) (one c.from-2.ensures c.ranges.b) (omega arith))
