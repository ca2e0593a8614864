-- What a frame's rows read: the synthesis channels of its layout, the analysis six slots of history and the input. Assumes nothing.
use Prim.Native.Nat.{ℕ, zero, suc, ◌+◌, ◌-◌, ◌*◌, ◌/◌, ◌%◌, ◌≤◌, ◌<◌}
use native.Mathlib.Nat.{le_refl}
use native.Mathlib.Omega.{arith}
use mathlib.Core.Path.{◌≡◌, refl, ap, ap₂, fun_ext}
use mathlib.Core.Bool.{Bool, true, false, cond}
use lib.Dec.{eqb, ltb}
use Rattle.complex.specs.declared.Complex.{Complex}
use Rattle.complex.specs.Operations.{sum}
use Rattle.layout.specs.declared.Layout.{Layout}
use Rattle.layout.specs.Numbers.{channels_of, split_of, unsplit_from_of, first_channel_of}
use Rattle.layout.proofs.Bounds.{bounds}
use Rattle.lists.proofs.Maps.{tabulate_same}
use Rattle.planar.specs.Frame.{qmf_rows}
use Rattle.standard.specs.Hybrid.{filters_of, prototype_for, joined_to, band_below, hybrid, added_to, synthesised}
use Rattle.standard.proofs.Spans.{spans}

-- ---- analysis

below_split : (l : Layout) (k p : ℕ) → band_below l k p ≤ p
below_split l k zero = le_refl 0
below_split l k (suc p) = go (ltb k (first_channel_of l (suc p))) (below_split l k p)
  where
    go : (t : Bool) → band_below l k p ≤ p → cond t (band_below l k p) (suc p) ≤ suc p
    go true h = omega arith
    go false h = le_refl (suc p)

-- a split band is read in every slot, any other from the frame's first slot on
pub hybrid_same : (l : Layout) (x y : ℕ → ℕ → Complex) → ((p j : ℕ) → p < split_of l → x p j ≡ y p j) → ((p j : ℕ) → 6 ≤ j → x p j ≡ y p j)
    → (n k : ℕ) → hybrid l x n k ≡ hybrid l y n k
unfolding hybrid
hybrid_same l x y split whole n k =
    go (band_below l k (split_of l - 1)) (omega (arith, below_split l k (split_of l - 1), (bounds l).some_split)) (ltb k (unsplit_from_of l))
  where
    go : (p : ℕ) → p < split_of l → (t : Bool)
        → cond t (joined_to l p (x p) n k (filters_of (prototype_for l p))) (x (k + split_of l - unsplit_from_of l) (n + 6))
        ≡ cond t (joined_to l p (y p) n k (filters_of (prototype_for l p))) (y (k + split_of l - unsplit_from_of l) (n + 6))
    go p u true = ap (λ (z : ℕ → Complex). joined_to l p z n k (filters_of (prototype_for l p))) (fun_ext (λ j. split p j u))
    go p u false = whole (k + split_of l - unsplit_from_of l) (n + 6) (omega arith)

-- ---- synthesis

added_same : (y z : ℕ → Complex) (from count : ℕ) → ((i : ℕ) → i < count → y (from + i) ≡ z (from + i)) → added_to y from count ≡ added_to z from count
unfolding added_to
added_same y z from zero same = refl
added_same y z from (suc count) same = ap₂ sum (added_same y z from count (λ i u. same i (omega arith))) (same count (le_refl (suc count)))

-- a QMF band reads its own channels: those of the split bands, or its own
pub synthesised_below : (l : Layout) (bound : ℕ) (y z : ℕ → Complex) → ((k : ℕ) → k < bound → y k ≡ z k) → unsplit_from_of l ≤ bound
    → (q : ℕ) → q + unsplit_from_of l - split_of l < bound → synthesised l y q ≡ synthesised l z q
unfolding synthesised
synthesised_below l bound y z same all q h = go (ltb q (split_of l))
  where
    go : (t : Bool)
        → cond t (added_to y (first_channel_of l q) (first_channel_of l (suc q) - first_channel_of l q)) (y (q + unsplit_from_of l - split_of l))
        ≡ cond t (added_to z (first_channel_of l q) (first_channel_of l (suc q) - first_channel_of l q)) (z (q + unsplit_from_of l - split_of l))
    go true = added_same y z (first_channel_of l q) (first_channel_of l (suc q) - first_channel_of l q) (λ i u. same (first_channel_of l q + i) (omega (arith, (spans l (suc q)).most)))
    go false = same (q + unsplit_from_of l - split_of l) h

pub synthesised_same : (l : Layout) (y z : ℕ → Complex) → ((k : ℕ) → k < channels_of l → y k ≡ z k) → (q : ℕ) → q < 64 → synthesised l y q ≡ synthesised l z q
synthesised_same l y z same q h = let b = bounds l in synthesised_below l (channels_of l) y z same (omega arith) q (omega arith)

-- the rows of a frame are those of their first slots
pub rows_same : (slots : ℕ) (y z : ℕ → ℕ → Complex) → ((n q : ℕ) → n < slots → q < 64 → y n q ≡ z n q) → qmf_rows slots y ≡ qmf_rows slots z
rows_same slots y z same =
    tabulate_same
    (λ i. cond (eqb (i % 2) 0) (y (i / 128) (i % 128 / 2)).re (y (i / 128) (i % 128 / 2)).im)
    (λ i. cond (eqb (i % 2) 0) (z (i / 128) (i % 128 / 2)).re (z (i / 128) (i % 128 / 2)).im)
    (128 * slots)
    (λ i u. ap (λ (v : Complex). cond (eqb (i % 2) 0) v.re v.im) (same (i / 128) (i % 128 / 2) (omega arith) (omega arith)))
