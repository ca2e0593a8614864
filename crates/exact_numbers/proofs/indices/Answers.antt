-- `exact_numbers::indices` meets its contract: a number of 0..65535 is two bytes. Assumes nothing.
use Rattle.std.proofs.Common.{[], ◌∷◌, ap₂, w8}
use lib.IntN.{ℤ}
use Rattle.integers.proofs.Bits.{via}
use Rattle.exact_numbers.specs.Numbers.{first_in, second_in}
use Rattle.exact_numbers.proofs.indices.Goals as goal

pub returns : goal.returns
unfolding first_in second_in
returns c =
    let first = c.index in
    let second = c.index-2 in
    rw (
      via w8 first.result _ first.type_inv first.ensures,
      via w8 second.result _ second.type_inv second.ensures,
      c.number-both.ensures,
    )
