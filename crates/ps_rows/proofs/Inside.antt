-- The library's clamp and its remainder are the definitions'. Assumes nothing.
use mathlib.Core.Path.{◌≡◌, refl, sym}
use mathlib.Core.Bool.{Bool, true, false, cond}
use native.Mathlib.Omega.{arith}
use lib.IntN.{ℤ, pos, negsuc}
use lib.Signed.{lt_z}
use Rattle.std.specs.Ordering.{ord_clamp, int_cmp, is_lt, is_gt}
use Rattle.std.specs.declared.cmp.Ordering.TheVariants.{Less, Equal, Greater}
use Rattle.std.specs.Prelude.{int_lt}
use Rattle.std.proofs.lemmas.Int.{ints}
use Rattle.std.specs.Int.{int_rem_euclid}
use Rattle.integers.specs.Integers.{clamp_z, wrap_z}

below : (a b : Bool) → is_lt (cond a Less (cond b Greater Equal)) ≡ a
below true b = refl
below false true = refl
below false false = refl

above : (a b : Bool) → (a ≡ true → b ≡ false) → is_gt (cond a Less (cond b Greater Equal)) ≡ b
above true b h = sym (h refl)
above false true h = refl
above false false h = refl

one_way : (x y : ℤ) → int_lt x y ≡ true → int_lt y x ≡ false
one_way x y h = grind (arith, ints)

pub clamp_is : (z lo hi : ℤ) → ord_clamp int_cmp z lo hi ≡ clamp_z lo hi z
clamp_is z lo hi = rw (below (int_lt z lo) (int_lt lo z), above (int_lt z hi) (int_lt hi z) (one_way z hi))

pub wrap_is : (z : ℤ) → int_rem_euclid z (pos 8) ≡ wrap_z z
wrap_is (pos a) = refl
wrap_is (negsuc a) = refl
