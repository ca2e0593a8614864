-- The hybrid channels of a split band are the joined answers of its filters. Assumes nothing.
use mathlib.Core.Path.{◌≡◌, refl, sym, ap, ap₂, ◌∙◌}
use mathlib.Core.Bool.{Bool, true, false, cond}
use mathlib.Core.List.{List}
use Prim.Native.Nat.{ℕ, zero, suc, ◌+◌, ◌-◌, ◌*◌, ◌<◌, ◌≤◌}
use native.Mathlib.Numerals.{add-one}
use native.Mathlib.Omega.{arith}
use borrow.Author.Tests.{eqb-true, eqb-false, ltb-true, ltb-false, lt-ltb, le-ltb}
use lib.Dec.{eqb, ltb}
use lib.Ieee.{Float}
use lib.ListN.{take}
use Rattle.complex.specs.declared.Complex.{Complex}
use Rattle.complex.specs.Operations.{sum}
use Rattle.decimals.specs.declared.Prototype.{Prototype}
use Rattle.layout.specs.declared.Layout.{Layout}
use Rattle.layout.specs.declared.Layout.TheVariants.{Bands20, Bands34}
use Rattle.layout.specs.Numbers.{split_of, unsplit_from_of, first_channel_of}
use Rattle.planar.specs.Cells.{cell}
use Rattle.planar.specs.Frame.{sample_at}
use Rattle.standard.specs.Numbers.{nought}
use Rattle.standard.specs.Hybrid.{prototype_for, filters_of, filtered, channel_for, joined_to, band_below, hybrid}
use Rattle.ps_hybrid_analysis.specs.Stages.{Written}
use Rattle.ps_hybrid_analysis.proofs.Channels.{drop_more, written_over, written_on, written_same}
use Rattle.standard.proofs.Spans.{spans}
use Rattle.ps_hybrid_analysis.proofs.Taps.{filtered_same}

-- ---- the filters of a band, one after the other
module _ (l : Layout) (p : ℕ) (x : ℕ → Complex) {slots from to : ℕ} {old : List Float} where
  pub joined_none : ((k n : ℕ) → from ≤ k → k < to → n < slots → sample_at old n k ≡ nought) → Written slots from to (λ k n. joined_to l p x n k 0) old old
  unfolding joined_to
  joined_none r = record { long = refl; inside = r; below = λ k n u v. refl; behind = λ k n u v. refl; rest = refl }

  pub joined_more : (q : ℕ) (t : Prototype) {mid new : List Float} → t ≡ prototype_for l p → Written slots from to (λ k n. joined_to l p x n k q) old mid
      → Written slots (channel_for l p q) (channel_for l p q + 1) (λ k n. sum (sample_at mid n k) (filtered t q x n)) mid new
      → slots ≤ 32 → from ≤ channel_for l p q → channel_for l p q < to → Written slots from to (λ k n. joined_to l p x n k (q + 1)) old new
  unfolding joined_to
  joined_more q t {mid} {new} g r s few u v =
      record {
        long = s.long ∙ r.long;
        inside = λ k n a b d. rw (add-one q) (at k n a b d (eqb (channel_for l p q) k) refl);
        below = λ k n a b. s.below k n (omega arith) b ∙ r.below k n a b;
        behind = λ k n a b. s.behind k n a b ∙ r.behind k n a b;
        rest = drop_more (64 * (channel_for l p q + 1)) (64 * to) new mid s.rest (omega arith) ∙ r.rest;
      }
    where
      other : (k n : ℕ) → k < to → n < slots → (channel_for l p q ≡ k → ⊥) → (t : Bool) → ltb k (channel_for l p q) ≡ t → sample_at new n k ≡ sample_at mid n k
      other k n b d f true e = s.below k n (ltb-true k (channel_for l p q) e) (omega arith)
      other k n b d f false e =
          let past : channel_for l p q + 1 ≤ k = omega (arith, ltb-false k (channel_for l p q) e) in
          ap (λ (t : List Float). cell 32 (take 64 t) n) (drop_more (64 * (channel_for l p q + 1)) (64 * k) new mid s.rest (omega arith))

      at : (k n : ℕ) → from ≤ k → k < to → n < slots → (t : Bool) → eqb (channel_for l p q) k ≡ t → sample_at new n k ≡ joined_to l p x n k (suc q)
      at k n a b d true e =
          let here : channel_for l p q ≡ k = eqb-true (channel_for l p q) k e in
          rw e
          (s.inside k n (omega arith) (omega arith) d
          ∙ ap₂ (λ (z : Complex) (u : Prototype). sum z (filtered u q x n)) (r.inside k n a b d) g)
      at k n a b d false e =
          rw e (other k n b d (eqb-false (channel_for l p q) k e) (ltb k (channel_for l p q)) refl ∙ r.inside k n a b d)

-- the band's channels are 0, and then its filters are joined
module _ (l : Layout) (p : ℕ) {slots from to : ℕ} {old mid : List Float} where
  pub silenced : Written slots from to (λ k n. nought) old mid → from ≡ first_channel_of l p → to ≡ first_channel_of l (suc p)
      → (k n : ℕ) → first_channel_of l p ≤ k → k < first_channel_of l (suc p) → n < slots → sample_at mid n k ≡ nought
  silenced r a b = rw (a, b) at r.inside

  pub banded : (x : ℕ → Complex) (t : Prototype) {new : List Float} → Written slots from to (λ k n. nought) old mid
      → Written slots (first_channel_of l p) (first_channel_of l (suc p)) (λ k n. joined_to l p x n k (filters_of t)) mid new → from ≡ first_channel_of l p → to ≡ first_channel_of l (suc p)
      → t ≡ prototype_for l p → Written slots (first_channel_of l p) (first_channel_of l (suc p)) (λ k n. joined_to l p x n k (filters_of (prototype_for l p))) old new
  banded x t r s a b g = written_over (rw (a, b) at r) (rw g at s)

-- slots that agree as far as the filters reach give the same
pub joined_same : (l : Layout) (p : ℕ) (x y : ℕ → Complex) (n k q : ℕ) → ((j : ℕ) → j < n + 13 → x j ≡ y j) → joined_to l p x n k q ≡ joined_to l p y n k q
unfolding joined_to
joined_same l p x y n k zero h = refl
joined_same l p x y n k (suc q) h =
    ap₂ (λ (a f : Complex). cond (eqb (channel_for l p q) k) (sum a f) a) (joined_same l p x y n k q h) (filtered_same (prototype_for l p) q x y n h)

-- ---- the split band of a channel
pub band_of : (l : Layout) (k p : ℕ) → p < split_of l → first_channel_of l p ≤ k → k < first_channel_of l (suc p) → band_below l k (split_of l - 1) ≡ p
band_of Bands20 k zero h u v = rw (lt-ltb k 8 (omega arith), lt-ltb k 6 v)
band_of Bands20 k (suc zero) h u v = rw (lt-ltb k 8 v, le-ltb k 6 u)
band_of Bands20 k (suc (suc zero)) h u v = rw (le-ltb k 8 u)
band_of Bands20 k (suc (suc (suc p))) h u v = absurd (omega arith)
band_of Bands34 k zero h u v = rw (lt-ltb k 28 (omega arith), lt-ltb k 24 (omega arith), lt-ltb k 20 (omega arith), lt-ltb k 12 v)
band_of Bands34 k (suc zero) h u v = rw (lt-ltb k 28 (omega arith), lt-ltb k 24 (omega arith), lt-ltb k 20 v, le-ltb k 12 u)
band_of Bands34 k (suc (suc zero)) h u v = rw (lt-ltb k 28 (omega arith), lt-ltb k 24 v, le-ltb k 20 u)
band_of Bands34 k (suc (suc (suc zero))) h u v = rw (lt-ltb k 28 v, le-ltb k 24 u)
band_of Bands34 k (suc (suc (suc (suc zero)))) h u v = rw (le-ltb k 28 u)
band_of Bands34 k (suc (suc (suc (suc (suc p))))) h u v = absurd (omega arith)

module _ (l : Layout) (x : ℕ → ℕ → Complex) (n k : ℕ) where
  pub hybrid_split : (p : ℕ) → p < split_of l → first_channel_of l p ≤ k → k < first_channel_of l (suc p) → k < unsplit_from_of l
      → joined_to l p (x p) n k (filters_of (prototype_for l p)) ≡ hybrid l x n k
  unfolding hybrid
  hybrid_split p h u v w =
      rw (lt-ltb k (unsplit_from_of l) w)
      (ap (λ (b : ℕ). joined_to l b (x b) n k (filters_of (prototype_for l b))) (sym (band_of l k p h u v)))

-- ---- a split band more
pub split_on : (l : Layout) (x : ℕ → ℕ → Complex) (p : ℕ) (y : ℕ → Complex) {slots : ℕ} {old mid new : List Float}
    → Written slots 0 (first_channel_of l p) (λ k n. hybrid l x n k) old mid
    → Written slots (first_channel_of l p) (first_channel_of l (suc p)) (λ k n. joined_to l p y n k (filters_of (prototype_for l p))) mid new
    → ((j : ℕ) → y j ≡ x p j) → slots ≤ 32 → p < split_of l → Written slots 0 (first_channel_of l (p + 1)) (λ k n. hybrid l x n k) old new
split_on l x p y r s same few h =
    rw (add-one p)
    (written_on r
    (written_same s (λ k n. hybrid l x n k)
    (λ k n u v w.
    joined_same l p y (x p) n k (filters_of (prototype_for l p)) (λ j z. same j)
    ∙ hybrid_split l x n k p h u v (omega (arith, (spans l (suc p)).most))))
    few (omega arith) (spans l p).rises)
