-- `exact_numbers::kept_flag` meets its contract: 1 and 0 are exact. Assumes nothing.
use Rattle.std.proofs.Common.{◌≡◌, Bool, true, false, refl, ◌∙◌}
use lib.IntN.{pos}
use lib.Ieee.{of_bits, of_int, binary64}
use mir.Val.{bool_byte}
use Rattle.exact_numbers.specs.Numbers.{kept_flag}
use Rattle.exact_numbers.proofs.kept_flag.Goals as goal

exact : (b : Bool) → of_int binary64 (pos (bool_byte b)) ≡ kept_flag b
unfolding of_bits of_int
exact false = refl
exact true = refl

pub returns : goal.returns
returns c = c.from.ensures ∙ exact c.args.b
