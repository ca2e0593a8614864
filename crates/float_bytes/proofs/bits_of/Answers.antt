-- `float_bytes::bits_of` meets its contract. Assumes nothing.
use mathlib.Core.Path.{sym, ap, ◌∙◌, subst}
use mathlib.Core.Bool.{Bool, not}
use lib.Dec.{T}
use lib.Ieee.{binary64, to_bits}
use Rattle.float_bytes.proofs.Nans.{nan_is, nan_bits}
use Rattle.float_bytes.proofs.bits_of.Goals as goal

pub float_to_bits-result : goal.float_to_bits-result
float_to_bits-result c = subst (λ (b : Bool). T (not b)) (sym c.if-is_nan.false ∙ c.is_nan.ensures.value) tt

pub returns-then-is_nan : goal.returns-then-is_nan
returns-then-is_nan c = sym (ap (to_bits binary64) (nan_is c.args.x (sym c.is_nan.ensures.value ∙ c.if-is_nan.true)) ∙ nan_bits)
