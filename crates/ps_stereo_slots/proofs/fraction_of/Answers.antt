-- `ps_stereo_slots::fraction_of` meets its contract: the slots passed over the slots of the region, each a whole number. Assumes nothing.
use native.Mathlib.Numerals.{add-one}
use lib.ListN.{get_or}
use Rattle.standard.specs.Interpolation.{fraction}
use Rattle.standard.specs.Numbers.{◌⊘◌}
use Prim.Native.Nat.{max}
use mathlib.Core.Path.{◌≡◌}
use native.Mathlib.Omega.{arith}
use Rattle.ps_stereo_slots.proofs.fraction_of.Goals as goal

pub returns : goal.returns
unfolding fraction ◌⊘◌
returns c =
    let g = c.args in
    let some : c.max-size.result ≡ max 1 c.saturating_sub.result = omega (arith, c.max-size.ensures) in
    rw (
      c.from.ensures,
      c.from-2.ensures,
      some,
      c.saturating_sub.ensures,
      c.after.ensures.0,
      c.saturating_sub-passed.ensures,
      c.first_slot-first.ensures.0,
      add-one g.n,
      add-one (get_or g.borders g.e 0),
    )
