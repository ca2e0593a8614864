-- Adding a channel to its band's row is one step of `power_to` for every band, and the channels of the samples and the columns of the input are all channels.
-- Assumes nothing.
use mathlib.Core.Path.{◌≡◌, refl, sym, ap, ap₂, ◌∙◌}
use mathlib.Core.Bool.{Bool, true, false, cond}
use mathlib.Core.List.{List}
use Prim.Native.Nat.{ℕ, ◌+◌, ◌-◌, ◌*◌, ◌<◌, ◌≤◌}
use native.Mathlib.Numerals.{add-one}
use native.Mathlib.Omega.{arith}
use borrow.Author.Tests.{eqb-true, eqb-false, lt-ltb, le-ltb}
use lib.Dec.{eqb}
use lib.Ieee.{Float, nan}
use lib.ListN.{length, get_or}
use Rattle.complex.specs.declared.Complex.{Complex}
use Rattle.complex.specs.Operations.{squared_magnitude}
use Rattle.layout.specs.declared.Layout.{Layout}
use Rattle.layout.specs.Numbers.{bands_of, channels_of, split_of, unsplit_from_of}
use Rattle.lists.proofs.Parts.{part_at}
use Rattle.planar.specs.Cells.{cell}
use Rattle.planar.specs.Frame.{sample_at, qmf_at, sample_in}
use Rattle.planar.proofs.Cells.{by_parts}
use Rattle.ps_map.specs.Bands.{parameter_map, band_of}
use Rattle.ps_map.proofs.Bands.{band_small}
use Rattle.standard.specs.Numbers as numbers
use Rattle.standard.specs.Numbers.{◌⊕◌}
use Rattle.standard.specs.Detector.{power_to}
use Rattle.ps_decorr_transient.specs.Gains.{power_at}
use Rattle.ps_decorr_transient.specs.Rows.{Rowed, added}

-- the powers of the channels below k
abbrev powers : Layout → (ℕ → ℕ → Complex) → ℕ → ℕ → ℕ → Float
powers l sample k b n = power_to l (sample n) b k

-- ---- one channel
module _ (l : Layout) (sample : ℕ → ℕ → Complex) (k : ℕ) {channel : ℕ → Complex} {slots band : ℕ} {old gains next : List Float}
    (r : Rowed 0 (bands_of l) slots (powers l sample k) old gains) (s : Rowed band (band + 1) slots (added gains channel) gains next)
    (is : band ≡ band_of l k) (own : (n : ℕ) → n < slots → channel n ≡ sample n k) (few : slots ≤ 32) where
  inside : (b n : ℕ) → b < bands_of l → n < slots → (t : Bool) → eqb (band_of l k) b ≡ t
      → get_or next (32 * b + n) nan ≡ cond t (powers l sample k b n ⊕ squared_magnitude (sample n k)) (powers l sample k b n)
  unfolding added
  inside b n u w true e =
      let same : band_of l k ≡ b = eqb-true (band_of l k) b e in
      s.inside b n (omega arith) (omega arith) w
      ∙ ap₂ (λ (p : Float) (z : Complex). p ⊕ squared_magnitude z) (r.inside b n (omega arith) u w) (own n w)
  inside b n u w false e =
      s.outside b n (omega arith) (λ g h v. eqb-false (band_of l k) b e (let same : band_of l k ≡ b = omega arith in same)) ∙ r.inside b n (omega arith) u w

  powers_more : Rowed 0 (bands_of l) slots (powers l sample (k + 1)) old next
  unfolding power_to
  powers_more =
      record {
        long = s.long ∙ r.long;
        inside = λ b n g u w. inside b n u w (eqb (band_of l k) b) refl ∙ rw (add-one k);
        outside = λ b n w o. s.outside b n w (λ g h v. o (omega arith) (omega (arith, band_small l k)) v) ∙ r.outside b n w o;
      }

-- ---- channel after channel, which the loops know by the map alone
-- rows of the powers of the channels below `first` become those of the channels below `last`, for the layout whose map it is
pub record Summed (map : List ℕ) (channel : ℕ → ℕ → Complex) (first last slots : ℕ) (old gains : List Float) : Type 0 where
  pub long : length gains ≡ length old
  pub rows : (l : Layout) (sample : ℕ → ℕ → Complex) (start : List Float) → map ≡ parameter_map l
      → ((k n : ℕ) → first ≤ k → k < last → n < slots → channel k n ≡ sample n k)
      → Rowed 0 (bands_of l) slots (powers l sample first) start old
      → Rowed 0 (bands_of l) slots (powers l sample last) start gains

pub summed_none : (map : List ℕ) (channel : ℕ → ℕ → Complex) (first slots : ℕ) (gains : List Float) → Summed map channel first first slots gains gains
summed_none map channel first slots gains = record { long = refl; rows = λ l sample start e own r. r }

pub summed_more : {map : List ℕ} {channel : ℕ → ℕ → Complex} {first k slots : ℕ} {old gains next : List Float} → Summed map channel first k slots old gains
    → Rowed (get_or map k 0) (get_or map k 0 + 1) slots (added gains (channel k)) gains next → first ≤ k → slots ≤ 32 → Summed map channel first (k + 1) slots old next
summed_more {k = k} r s low few =
    record {
      long = s.long ∙ r.long;
      rows = λ l sample start e own h.
          powers_more l sample k (r.rows l sample start e (λ i n u v w. own i n u (omega arith) w) h) s (ap (λ (t : List ℕ). get_or t k 0) e)
          (λ n w. own k n low (omega arith) w) few;
    }

-- ---- all channels: those of the samples, then those of the input
-- slot n of channel k where it stands in the frame
sample_is : (samples : List Float) (k n : ℕ) → n < 32 → cell 32 samples (1 * n + 64 * k) ≡ sample_at samples n k
sample_is samples k n u =
    let here : 1 * n + 64 * k ≡ 64 * k + n = omega arith in
    let behind : 1 * n + 64 * k + 32 ≡ 64 * k + (n + 32) = omega arith in
    by_parts (ap (λ (i : ℕ). get_or samples i nan) here ∙ sym (part_at _ 64 samples n nan (omega arith))) (ap (λ (i : ℕ). get_or samples i nan) behind ∙ sym (part_at _ 64 samples (n + 32) nan (omega arith)))

-- what each loop reads
abbrev pub in_row : List Float → ℕ → ℕ → Complex
in_row samples k n = cell 32 samples (1 * n + 64 * k)

abbrev pub in_column : List Float → ℕ → ℕ → ℕ → ℕ → Complex
in_column input unsplit split k n = qmf_at input n (k + split - unsplit)

module _ (l : Layout) (samples input : List Float) (slots : ℕ) (few : slots ≤ 32) where
  below : (k n : ℕ) → k < unsplit_from_of l → n < slots → in_row samples k n ≡ sample_in l samples input n k
  below k n u w = rw (lt-ltb k (unsplit_from_of l) u) (sample_is samples k n (omega arith))

  above : (k n : ℕ) → unsplit_from_of l ≤ k → in_column input (unsplit_from_of l) (split_of l) k n ≡ sample_in l samples input n k
  above k n u = rw (le-ltb k (unsplit_from_of l) u)

  pub powers_all : {map : List ℕ} {bands : ℕ} {old cleared gains next : List Float} → map ≡ parameter_map l → bands ≡ bands_of l
      → Rowed 0 bands slots (λ b n. numbers.zero) old cleared
      → Summed map (in_row samples) 0 (unsplit_from_of l) slots cleared gains
      → Summed map (in_column input (unsplit_from_of l) (split_of l)) (unsplit_from_of l) (channels_of l) slots gains next
      → Rowed 0 (bands_of l) slots (power_at l samples input) old next
  unfolding power_at power_to
  powers_all {old = old} e all clear r s =
      s.rows l (sample_in l samples input) old e (λ k n u v w. above k n u)
      (r.rows l (sample_in l samples input) old e (λ k n u v w. below k n v w) (rw all at clear))

-- ---- a channel's band is one of the layout's
pub band_within : (l : Layout) (map : List ℕ) (k : ℕ) → map ≡ parameter_map l → get_or map k 0 < bands_of l
band_within l map k e = rw e (band_small l k)
