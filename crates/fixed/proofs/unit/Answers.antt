-- `fixed::unit` meets its contract: the cast is asked of what the machine reads back from n's bits, which is n, and the literal is 2^52.
-- Assumes nothing.
use Rattle.std.proofs.Common.{◌≡◌, false, pos, refl, w64}
use lib.Ieee.{fin, binary64, of_bits}
use mir.ValLaws.{to_z-of_z}
use Rattle.fixed.proofs.unit.Goals as goal

divisor : of_bits binary64 4841369599423283200 ≡ fin false 1 (pos 52)
unfolding of_bits
divisor = refl

pub returns : goal.returns
returns c = rw (c.nearest_i64_to_f64.ensures, to_z-of_z w64 c.args.n c.ranges.n, divisor)
