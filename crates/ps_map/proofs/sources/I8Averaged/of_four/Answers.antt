-- `of_four` of indices meets its contract: it is the average of a sum of four indices. Assumes nothing.
use native.Mathlib.Omega.{arith}
use lib.IntN.{◌+ℤ◌}
use Rattle.ps_map.proofs.Averages.{in32, Sum, one, plus, fits, in_bits, average_fits, average}
use Rattle.ps_map.proofs.sources.I8Averaged.of_four.Goals as goal

module _ (c : goal.After-from-4) where
  three : Sum (in32 (in32 c.from.result +ℤ in32 c.from-2.result) +ℤ in32 c.from-3.result) (c.args.a +ℤ c.args.b +ℤ c.args.c) 3
  three = plus (in_bits (plus (one c.from.ensures c.ranges.a) (one c.from-2.ensures c.ranges.b) (omega arith))) (one c.from-3.ensures c.ranges.c) (omega arith)

  sum : Sum (in32 (in32 (in32 c.from.result +ℤ in32 c.from-2.result) +ℤ in32 c.from-3.result) +ℤ in32 c.from-4.result) (c.args.a +ℤ c.args.b +ℤ c.args.c +ℤ c.args.d) 4
  sum = plus (in_bits three) (one c.from-4.ensures c.ranges.d) (omega arith)

pub overflow_add-result-3 : goal.overflow_add-result-3
overflow_add-result-3 c = fits (sum c)

pub overflow_cast-result : goal.overflow_cast-result
overflow_cast-result c = average_fits (sum c)

pub returns : goal.returns
returns c = average (sum c)
