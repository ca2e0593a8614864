-- The taps of a filter are those of the standard, and so is what they make of a band's slots. Assumes nothing.
use mathlib.Core.Path.{◌≡◌, refl, ap, ap₂, ◌∙◌}
use mathlib.Core.Bool.{true, false}
use mathlib.Core.List.{List}
use Prim.Native.Nat.{ℕ, zero, suc, ◌+◌, ◌-◌, ◌<◌, ◌≤◌}
use native.Mathlib.Omega.{arith}
use lib.Ieee.{Float, nan, binary64, mul, of_bits}
use lib.ListN.{length, get_or}
use Rattle.complex.specs.declared.Complex.{Complex}
use Rattle.complex.specs.Operations.{sum, product}
use Rattle.decimals.specs.declared.Prototype.{Prototype}
use Rattle.decimals.specs.declared.Prototype.TheVariants.{EighthsOfBand0, Halves, Twelfths, EighthsOfBand1, Quarters}
use Rattle.decimals.specs.Prototypes.{prototype_of, g0q8, g12q2, g0q12, g1q8, g234q4}
use Rattle.lists.proofs.Places.{any_default}
use Rattle.planar.specs.Cells.{cell, planar}
use Rattle.planar.proofs.Cells.{planar_at}
use Rattle.standard.specs.Numbers as numbers
use Rattle.standard.specs.Numbers.{◌⊗◌}
use Rattle.standard.specs.Hybrid.{modulation, type_a, tap, taps_to, filtered, added_to}
use Rattle.standard.proofs.Literals.{zero_is}

-- ---- a tap
module _ (p : Prototype) (g : Float) (q m : ℕ) (root : Complex) (own : g ≡ get_or (prototype_of p) m numbers.zero) (is : root ≡ modulation p q m) where
  pub complex_tap : type_a p ≡ true → record { re = mul binary64 g root.re; im = mul binary64 g root.im } ≡ tap p q m
  unfolding tap ◌⊗◌
  complex_tap t = rw (own, is, t)

  pub real_tap : type_a p ≡ false → record { re = mul binary64 g root.re; im = of_bits binary64 0 } ≡ tap p q m
  unfolding tap ◌⊗◌
  real_tap t = rw (own, is, t, zero_is)

pub prototype_length : (p : Prototype) → length (prototype_of p) ≡ 13
unfolding prototype_of g0q8 g12q2 g0q12 g1q8 g234q4
prototype_length EighthsOfBand0 = refl
prototype_length Halves = refl
prototype_length Twelfths = refl
prototype_length EighthsOfBand1 = refl
prototype_length Quarters = refl

pub tap_read : (p : Prototype) (m : ℕ) {g : List Float} → g ≡ prototype_of p → m < 13 → get_or g m nan ≡ get_or (prototype_of p) m numbers.zero
tap_read p m e h = ap (λ (g : List Float). get_or g m nan) e ∙ any_default (prototype_of p) m nan numbers.zero (omega (arith, prototype_length p))

-- ---- a filter
-- the sum of the first taps at slot n
abbrev pub convolved : (ℕ → Complex) → (ℕ → Complex) → ℕ → ℕ → Complex
convolved taps x n m = added_to (λ i. product (taps i) (x (n + 12 - i))) 0 m

pub convolved_more : (taps x : ℕ → Complex) (n m : ℕ) → convolved taps x n (suc m) ≡ sum (convolved taps x n m) (product (taps m) (x (n + 12 - m)))
unfolding added_to
convolved_more taps x n m = let same : 0 + m ≡ m = omega arith in rw same

pub convolved_is : (p : Prototype) (q : ℕ) (taps : List Float) (x : ℕ → Complex) (n m : ℕ) → taps ≡ planar 13 (tap p q) → m ≤ 13 → convolved (cell 13 taps) x n m ≡ taps_to p q x n m
unfolding added_to taps_to
convolved_is p q taps x n zero e h = refl
convolved_is p q taps x n (suc m) e h =
    let here : cell 13 taps m ≡ tap p q m = ap (λ (t : List Float). cell 13 t m) e ∙ planar_at 13 (tap p q) m (omega arith) in
    let before : convolved (cell 13 taps) x n m ≡ taps_to p q x n m = convolved_is p q taps x n m e (omega arith) in
    convolved_more (cell 13 taps) x n m ∙ ap₂ (λ (a t : Complex). sum a (product t (x (n + 12 - m)))) before here

pub filtered_is : (p : Prototype) (q : ℕ) (taps : List Float) (x : ℕ → Complex) (n : ℕ) → taps ≡ planar 13 (tap p q) → convolved (cell 13 taps) x n 13 ≡ filtered p q x n
unfolding filtered
filtered_is p q taps x n e = convolved_is p q taps x n 13 e (omega arith)

-- slots that agree as far as the taps reach give the same
taps_same : (p : Prototype) (q : ℕ) (x y : ℕ → Complex) (n m : ℕ) → ((j : ℕ) → j < n + 13 → x j ≡ y j) → taps_to p q x n m ≡ taps_to p q y n m
unfolding taps_to
taps_same p q x y n zero h = refl
taps_same p q x y n (suc m) h =
    let here : x (n + 12 - m) ≡ y (n + 12 - m) = h (n + 12 - m) (omega arith) in
    let before : taps_to p q x n m ≡ taps_to p q y n m = taps_same p q x y n m h in
    rw (here, before)

pub filtered_same : (p : Prototype) (q : ℕ) (x y : ℕ → Complex) (n : ℕ) → ((j : ℕ) → j < n + 13 → x j ≡ y j) → filtered p q x n ≡ filtered p q y n
unfolding filtered
filtered_same p q x y n h = taps_same p q x y n 13 h
