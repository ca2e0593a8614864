-- §8.6.4.3 and §8.6.4.7: the lowest QMF bands split into hybrid channels, and added together again. Assumes nothing.
use Rattle.std.specs.Prelude.{ℕ, zero, suc, ◌+◌, ◌-◌, ◌*◌, Bool, true, false, cond, List, [], ◌∷◌, eqb, ltb, Float, get_or}
use Rattle.complex.specs.declared.Complex.{Complex}
use Rattle.complex.specs.Operations.{product, sum}
use Rattle.decimals.specs.declared.Prototype.{Prototype}
use Rattle.decimals.specs.declared.Prototype.TheVariants.{EighthsOfBand0, Halves, Twelfths, EighthsOfBand1, Quarters}
use Rattle.decimals.specs.Prototypes.{prototype_of}
use Rattle.layout.specs.declared.Layout.{Layout}
use Rattle.layout.specs.declared.Layout.TheVariants.{Bands20, Bands34}
use Rattle.layout.specs.Numbers.{split_of, unsplit_from_of, first_channel_of}
use Rattle.root_table.specs.Roots.{root_of}
use Rattle.root_table.specs.Values.{root8, root16, root24}
use Rattle.standard.specs.Numbers as numbers
use Rattle.standard.specs.Numbers.{nought, ◌⊗◌}

-- ---- the filters of a split QMF band

-- Tables 8.37 and 8.38: the prototype of QMF band p
abbrev pub prototype_for : Layout → ℕ → Prototype
prototype_for Bands20 p = cond (eqb p 0) EighthsOfBand0 Halves
prototype_for Bands34 p = cond (eqb p 0) Twelfths (cond (eqb p 1) EighthsOfBand1 Quarters)

-- Q^p: how many filters
abbrev pub filters_of : Prototype → ℕ
filters_of EighthsOfBand0 = 8
filters_of Halves = 2
filters_of Twelfths = 12
filters_of EighthsOfBand1 = 8
filters_of Quarters = 4

-- type A is modulated by exp(j 2π/Q (q + 1/2)(m - 6)), the root of order 2Q at (2q + 1)(m - 6); 48 is a multiple of each such order, so m + 42
-- stands for m - 6. Type B is modulated by cos(2π q/Q (m - 6)), for Q = 2 the root of order 8 at 4q (m - 6)
unfoldable pub modulation : Prototype → ℕ → ℕ → Complex
modulation EighthsOfBand0 q m = root_of root16 16 ((2 * q + 1) * (m + 42))
modulation Halves q m = root_of root8 8 (4 * q * (m + 42))
modulation Twelfths q m = root_of root24 24 ((2 * q + 1) * (m + 42))
modulation EighthsOfBand1 q m = root_of root16 16 ((2 * q + 1) * (m + 42))
modulation Quarters q m = root_of root8 8 ((2 * q + 1) * (m + 42))

-- type B has real taps
abbrev pub type_a : Prototype → Bool
type_a EighthsOfBand0 = true
type_a Halves = false
type_a Twelfths = true
type_a EighthsOfBand1 = true
type_a Quarters = true

-- tap m of filter q
unfoldable pub tap : Prototype → ℕ → ℕ → Complex
tap p q m =
    let g = get_or (prototype_of p) m numbers.zero in
    record { re = g ⊗ (modulation p q m).re; im = cond (type_a p) (g ⊗ (modulation p q m).im) numbers.zero }

-- the sum of the first taps over a band's slots, where slot n of the frame stands at n + 6: y[n] = Σ G[m] x[n + 6 - m]
unfoldable pub taps_to : Prototype → ℕ → (ℕ → Complex) → ℕ → ℕ → Complex
taps_to p q x n zero = nought
taps_to p q x n (suc m) = sum (taps_to p q x n m) (product (tap p q m) (x (n + 12 - m)))

unfoldable pub filtered : Prototype → ℕ → (ℕ → Complex) → ℕ → Complex
filtered p q x n = taps_to p q x n 13

-- ---- channels

-- Figures 8.20 and 8.22: the hybrid channel of filter q of QMF band p
abbrev pub channel_for : Layout → ℕ → ℕ → ℕ
channel_for Bands20 p q = cond (eqb p 0) (get_or (2 ∷ 3 ∷ 4 ∷ 5 ∷ 5 ∷ 4 ∷ 0 ∷ 1 ∷ []) q 5) (cond (eqb p 1) (cond (eqb q 0) 7 6) (8 + q))
channel_for Bands34 p q = get_or (0 ∷ 12 ∷ 20 ∷ 24 ∷ 28 ∷ []) p 28 + q

-- what the first filters of band p add to channel k, from 0 in filter order
unfoldable pub joined_to : Layout → ℕ → (ℕ → Complex) → ℕ → ℕ → ℕ → Complex
joined_to l p x n k zero = nought
joined_to l p x n k (suc q) =
    cond (eqb (channel_for l p q) k) (sum (joined_to l p x n k q) (filtered (prototype_for l p) q x n)) (joined_to l p x n k q)

-- the split QMF band of a channel
abbrev pub band_below : Layout → ℕ → ℕ → ℕ
band_below l k zero = 0
band_below l k (suc p) = cond (ltb k (first_channel_of l (suc p))) (band_below l k p) (suc p)

-- hybrid sample n of channel k, from the slots of each QMF band with six slots of history before the frame: an unsplit band passes unchanged
unfoldable pub hybrid : Layout → (ℕ → ℕ → Complex) → ℕ → ℕ → Complex
hybrid l x n k =
    cond (ltb k (unsplit_from_of l))
    (joined_to l (band_below l k (split_of l - 1)) (x (band_below l k (split_of l - 1))) n k (filters_of (prototype_for l (band_below l k (split_of l - 1)))))
    (x (k + split_of l - unsplit_from_of l) (n + 6))

-- ---- synthesis

-- the channels from `from` on, `count` of them, added in rising order from 0
unfoldable pub added_to : (ℕ → Complex) → ℕ → ℕ → Complex
added_to y from zero = nought
added_to y from (suc count) = sum (added_to y from count) (y (from + count))

-- QMF band q of a slot
unfoldable pub synthesised : Layout → (ℕ → Complex) → ℕ → Complex
synthesised l y q =
    cond (ltb q (split_of l)) (added_to y (first_channel_of l q) (first_channel_of l (suc q) - first_channel_of l q)) (y (q + unsplit_from_of l - split_of l))
