-- `float_bytes::float_of` meets its contract. Assumes nothing.
use mathlib.Core.Path.{sym, ◌∙◌, subst}
use mathlib.Core.Bool.{not}
use borrow.Author.Tests.{lt-ltb, le-ltb}
use lib.Dec.{T}
use lib.Ieee.{binary64, of_bits}
use lib.Ieee.Bits.{nan_bits_is, nan_bits_above}
use Rattle.float_bytes.proofs.Nans.{nan_is, nan_pattern}
use Rattle.float_bytes.proofs.float_of.Goals as goal

pub float_from_bits-result : goal.float_from_bits-result
float_from_bits-result c =
    subst (λ b. T (not b)) (sym (nan_bits_above binary64 c.args.n ∙ le-ltb _ _ c.if-n-gt9218868437227405312.false)) tt

pub returns-then-n-gt9218868437227405312 : goal.returns-then-n-gt9218868437227405312
returns-then-n-gt9218868437227405312 c =
    let n = c.args.n in
    nan_pattern ∙ sym (nan_is (of_bits binary64 n) (sym (nan_bits_is binary64 n) ∙ nan_bits_above binary64 n ∙ lt-ltb _ _ c.if-n-gt9218868437227405312.true))
