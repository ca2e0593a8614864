-- `ps_rows::steps::accumulate` meets its contract: the sum of two bytes fits an i32, so that what is limited is the sum itself. Assumes nothing.
use native.Mathlib.Omega.{arith}
use Prim.Native.Nat.{◌<◌}
use lib.IntN.{◌+ℤ◌}
use lib.Signed.{mag}
use mir.Syntax.{w8, w32}
use mir.Val.{to_z, of_z}
use Rattle.std.proofs.lemmas.Int.{ints}
use Rattle.integers.proofs.Bits.{via}
use mathlib.Core.Path.{◌≡◌, ◌∙◌}
use Rattle.integers.specs.Integers.{byte_z}
use Rattle.integers.proofs.Ranges.{mag_byte}
use Rattle.ps_rows.specs.Steps.{step}
use Rattle.ps_rows.proofs.steps.accumulate.Goals as goal

pub returns : goal.returns
unfolding step
returns c =
    let r = c.limited in
    let d : c.signed.result ≡ byte_z c.args.delta = c.signed.ensures in
    let small : mag (byte_z c.args.delta) < 128 = mag_byte c.args.delta c.ranges.delta.fits in
    let sum : to_z w32 (of_z w32 (to_z w32 (of_z w32 c.from.result) +ℤ to_z w32 (of_z w32 c.signed.result))) ≡ c.args.previous +ℤ byte_z c.args.delta = omega (arith, ints) in
    via w8 r.result _ r.type_inv r.ensures ∙ rw sum
