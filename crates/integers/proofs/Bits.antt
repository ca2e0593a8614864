-- A number's bits give the number back where it fits the width, also through a cast to another width. Assumes nothing.
use mathlib.Core.Path.{◌≡◌, ap, ◌∙◌}
use Prim.Native.Nat.{◌^◌, ◌<◌}
use lib.Dec.{T, leb}
use lib.IntN.{ℤ}
use lib.Signed.{mag}
use mir.Syntax.{Width}
use mir.Val.{hbits, to_z, of_z}
use mir.Facts.{to_z-of_z, sfits_widen}

-- of any width: the bound is 128 for an i8, 32,768 for an i16, and so on
pub back : (w : Width) (z : ℤ) → mag z < 2 ^ hbits w → to_z w (of_z w z) ≡ z
back w z h = to_z-of_z {w = w} (record { sfits = h })

-- a result that was passed on as bits
pub via : (w : Width) (r s : ℤ) → mag r < 2 ^ hbits w → r ≡ s → to_z w (of_z w r) ≡ s
via w r s h e = back w r h ∙ e

-- and one that was cast from a width v to a width w that is no narrower, which `tt` says
pub wide : (v w : Width) (z : ℤ) → T (leb (hbits v) (hbits w)) → mag z < 2 ^ hbits v → to_z w (of_z w (to_z v (of_z v z))) ≡ z
wide v w z t h = ap (λ (y : ℤ). to_z w (of_z w y)) (back v z h) ∙ to_z-of_z (sfits_widen {w = v} {w' = w} t (record { sfits = h }))
