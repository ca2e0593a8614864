-- `exact_numbers::kept_pair` meets its contract: both shifted indices are below 256, so that the sum fits. Assumes nothing.
use Rattle.std.proofs.Common.{w8}
use Rattle.integers.proofs.Bits.{back}
use Rattle.exact_numbers.specs.Numbers.{kept_pair}
use Rattle.exact_numbers.proofs.kept_pair.Goals as goal

pub returns : goal.returns
unfolding kept_pair
returns c =
    rw (
      c.kept_number.ensures,
      c.shifted-2.ensures.0,
      c.shifted.ensures.0,
      back w8 c.args.first c.ranges.first.sfits,
      back w8 c.args.second c.ranges.second.sfits,
    )
