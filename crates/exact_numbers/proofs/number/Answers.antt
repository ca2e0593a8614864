-- `exact_numbers::number` meets its contract: where a test fails the float lies beyond a u64, and reads as an end of its range. Assumes nothing.
use Rattle.std.proofs.Common.{T, sym, subst, arith, le-leb}
use borrow.Author.Tests.{lt-leb}
use lib.Ieee.{of_bits, neg}
use Rattle.exact_numbers.specs.Numbers.{number_in}
use Rattle.exact_numbers.proofs.Range.{none_below, most_above}
use Rattle.exact_numbers.proofs.number.Goals as goal
use Rattle.exact_numbers.proofs.number.Goals.{else-x-via-then-x+else-x-2, else-x-via-else-x}

pub truncating_f64_to_u64-n-requires : goal.truncating_f64_to_u64-n-requires
unfolding of_bits neg
truncating_f64_to_u64-n-requires c = record { lower_bound = subst T (sym c.if-x.true) tt; upper_bound = subst T (sym c.if-x-2.true) tt }

pub returns-then-n-from : goal.returns-then-n-from
unfolding number_in
returns-then-n-from c =
    let n = c.truncating_f64_to_u64-n in
    simp (sym n.ensures, le-leb n.result c.args.limit (omega (arith, c.from.ensures)))

pub returns-else-n-from : goal.returns-else-n-from
unfolding number_in
returns-else-n-from c =
    let n = c.truncating_f64_to_u64-n in
    simp (sym n.ensures, lt-leb n.result c.args.limit (omega (arith, c.from.ensures)))

pub returns-else-x : goal.returns-else-x
unfolding number_in of_bits neg
returns-else-x c = elim c.else-x.branch [
  | else-x-via-then-x+else-x-2 w ↦ simp (most_above _ w.if-x.true w.if-x-2.false, lt-leb 18446744073709551615 c.args.limit (omega arith))
  | else-x-via-else-x w ↦ simp (none_below _ w.if-x.false, le-leb 0 c.args.limit (omega arith))
]
