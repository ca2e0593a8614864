-- An average of n indices: a sum of n indices of 8 bits has a size below 128 n, so it is exact in 32 bits, and its n-th part is an index again. One law for
-- every sum and divisor. Assumes nothing.
use mathlib.Core.Path.{◌≡◌, ap, ◌∙◌}
use Prim.Native.Nat.{ℕ, ◌+◌, ◌*◌, ◌≤◌, ◌<◌}
use native.Mathlib.Omega.{arith}
use lib.IntN.{ℤ, pos, ◌+ℤ◌, ◌*ℤ◌}
use lib.Signed.{mag, quot_z}
use mir.Syntax.{w8, w32}
use mir.Val.{SFits, to_z, of_z}
use mir.Facts.{to_z-of_z}
use Rattle.integers.specs.Integers.{to_zero}
use Rattle.integers.proofs.Bits.{back, wide}
use Rattle.integers.proofs.Sizes.{mag_add, mag_scaled}
use Rattle.integers.proofs.Quotients.{quot_is, small}

-- a number as its 8 or 32 bits give it back
abbrev pub in8 : ℤ → ℤ
in8 z = to_z w8 (of_z w8 z)

abbrev pub in32 : ℤ → ℤ
in32 z = to_z w32 (of_z w32 z)

-- z, which the code has, is s, a sum of n indices
pub record Sum (z s : ℤ) (n : ℕ) : Type 0 where
  pub is : z ≡ s
  pub size : mag s < 128 * n
  pub some : 0 < n
  pub few : n ≤ 4

-- ---- sums
-- an index as `i32::from` gives it
pub one : {r a : ℤ} → r ≡ in8 a → SFits w8 a → Sum (in32 r) a 1
one {r} {a} e f = record { is = rw e (wide w8 w32 a tt f.sfits); size = omega (arith, f.sfits); some = omega arith; few = omega arith }

pub plus : {x y a b : ℤ} {j k : ℕ} → Sum x a j → Sum y b k → j + k ≤ 4 → Sum (x +ℤ y) (a +ℤ b) (j + k)
plus {x} {y} {a} {b} p q h = record { is = rw (p.is, q.is); size = omega (arith, mag_add a b, p.size, q.size); some = omega (arith, p.some); few = h }

pub twice : {x a : ℤ} {k : ℕ} → Sum x a k → 2 * k ≤ 4 → Sum (pos 2 *ℤ x) (pos 2 *ℤ a) (2 * k)
twice {x} {a} p h = record { is = rw p.is; size = omega (arith, mag_scaled 2 a, p.size); some = omega (arith, p.some); few = h }

-- ---- their averages
module _ {z s : ℤ} {n : ℕ} (r : Sum z s n) where
  pub fits : SFits w32 z
  fits = rw r.is (record { sfits = omega (arith, r.size, r.few) })

  pub in_bits : Sum (in32 z) s n
  in_bits = record { is = to_z-of_z fits ∙ r.is; size = r.size; some = r.some; few = r.few }

  narrow : mag (quot_z s (pos n)) < 128
  narrow = small s n 128 r.some (omega arith) r.size

  quotient : quot_z (in32 z) (pos n) ≡ quot_z s (pos n)
  quotient = ap (λ (y : ℤ). quot_z y (pos n)) in_bits.is

  quotient_in_bits : in32 (quot_z (in32 z) (pos n)) ≡ quot_z s (pos n)
  quotient_in_bits = ap in32 quotient ∙ back w32 (quot_z s (pos n)) (omega (arith, narrow))

  pub divides : (0 < n) × SFits w32 (quot_z (in32 z) (pos n))
  divides = (r.some, rw quotient (record { sfits = omega (arith, narrow) }))

  pub average_fits : SFits w8 (in32 (quot_z (in32 z) (pos n)))
  average_fits = rw quotient_in_bits (record { sfits = narrow })

  pub average : in8 (in32 (quot_z (in32 z) (pos n))) ≡ to_zero s n
  average = ap in8 quotient_in_bits ∙ back w8 (quot_z s (pos n)) narrow ∙ quot_is s n
