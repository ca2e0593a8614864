-- On a change of layout the kept coefficients are brought from bands of the old layout alone: one computed test over each table of sources. Assumes nothing.
use Prim.Native.Nat.{ℕ, ◌<◌}
use native.Mathlib.Omega.{arith}
use mathlib.Core.Path.{◌≡◌, refl, sym, ap, ◌∙◌}
use mathlib.Core.Bool.{Bool, true, false, true≢false}
use mathlib.Core.List.{List, [], ◌∷◌, map}
use lib.Dec.{ltb}
use lib.Ieee.{Float}
use lib.ListN.{length, get_or}
use borrow.Author.Tests.{ltb-true}
use Rattle.layout.specs.declared.Layout.{Layout}
use Rattle.layout.specs.declared.Layout.TheVariants.{Bands20, Bands34}
use Rattle.layout.specs.Numbers.{bands_of}
use Rattle.layout.proofs.Bounds.{bounds}
use Rattle.lists.specs.All.{all}
use Rattle.lists.specs.Padded.{padded}
use Rattle.lists.specs.Rows.{tabulate}
use Rattle.lists.proofs.Alls.{all_at}
use Rattle.lists.proofs.Maps.{tabulate_at, tabulate_same, mapped}
use Rattle.ps_map.specs.declared.MapSrc.{MapSrc}
use Rattle.ps_map.specs.declared.MapSrc.TheVariants.{Single, Avg, Avg4, W21, W12}
use Rattle.ps_map.specs.Maps.{whole, coefficient_at, coefficient_from, map_coefficients}
use Rattle.ps_map.specs.Tables.{map20to34, map34to20, sources_of}
use Rattle.standard.specs.Mixing.{Kept}
use Rattle.standard.specs.Core.{same_layout, remapped}

-- the bands that a source reads, and a test that each is below n
abbrev places : MapSrc → List ℕ
places (Single i) = i ∷ []
places (Avg i j) = i ∷ j ∷ []
places (Avg4 i j k l) = i ∷ j ∷ k ∷ l ∷ []
places (W21 i j) = i ∷ j ∷ []
places (W12 i j) = i ∷ j ∷ []

abbrev below : ℕ → MapSrc → Bool
below n source = all (λ (i : ℕ). ltb i n) (places source)

tested : (old new : Layout) → same_layout old new ≡ false → all (below (bands_of old)) (sources_of new) ≡ true
unfolding map20to34 map34to20 same_layout
tested Bands20 Bands20 e = absurd (true≢false e)
tested Bands20 Bands34 e = refl
tested Bands34 Bands20 e = refl
tested Bands34 Bands34 e = absurd (true≢false e)

-- ---- numbers that agree there are brought alike

module _ (n : ℕ) (v w : List Float) (same : (i : ℕ) → i < n → coefficient_at v i ≡ coefficient_at w i) where
  source_same : (source : MapSrc) → below n source ≡ true → coefficient_from v source ≡ coefficient_from w source
  source_same source e = go source (λ i u. same (get_or (places source) i 0) (ltb-true _ n (all_at (λ (j : ℕ). ltb j n) (places source) i 0 u e)))
    where
      go : (source : MapSrc) → ((i : ℕ) → i < length (places source) → coefficient_at v (get_or (places source) i 0) ≡ coefficient_at w (get_or (places source) i 0))
          → coefficient_from v source ≡ coefficient_from w source
      go (Single i) p = p 0 (omega arith)
      go (Avg i j) p = rw (p 0 (omega arith), p 1 (omega arith))
      go (Avg4 i j k l) p = rw (p 0 (omega arith), p 1 (omega arith), p 2 (omega arith), p 3 (omega arith))
      go (W21 i j) p = rw (p 0 (omega arith), p 1 (omega arith))
      go (W12 i j) p = rw (p 0 (omega arith), p 1 (omega arith))

  sources_same : (sources : List MapSrc) → all (below n) sources ≡ true → map (coefficient_from v) sources ≡ map (coefficient_from w) sources
  sources_same sources e =
      sym (mapped (coefficient_from v) sources (Single 0))
      ∙ tabulate_same (λ i. coefficient_from v (get_or sources i (Single 0))) (λ i. coefficient_from w (get_or sources i (Single 0))) (length sources)
      (λ i u. source_same (get_or sources i (Single 0)) (all_at (below n) sources i (Single 0) u e))
      ∙ mapped (coefficient_from w) sources (Single 0)

module _ (old new : Layout) (other : same_layout old new ≡ false) where
  numbers_same : (f g : ℕ → Float) → ((b : ℕ) → b < bands_of old → f b ≡ g b) → map_coefficients (tabulate f 34) new ≡ map_coefficients (tabulate g 34) new
  unfolding map_coefficients
  numbers_same f g same =
      ap (padded 34 (whole 0)) (sources_same (bands_of old) (tabulate f 34) (tabulate g 34) at_each (sources_of new) (tested old new other))
    where
      at_each : (i : ℕ) → i < bands_of old → coefficient_at (tabulate f 34) i ≡ coefficient_at (tabulate g 34) i
      at_each i u =
          let inside : i < 34 = omega (arith, (bounds old).bands) in
          tabulate_at f 34 i (whole 0) inside ∙ same i u ∙ sym (tabulate_at g 34 i (whole 0) inside)

  pub remapped_same : (kept_here kept_there : ℕ → Kept) → ((b : ℕ) → b < bands_of old → kept_here b ≡ kept_there b)
      → (b : ℕ) → remapped new kept_here b ≡ remapped new kept_there b
  unfolding remapped
  remapped_same kept_here kept_there same b =
      rw (
        brought (λ m. m.matrix.h11.re),
        brought (λ m. m.matrix.h11.im),
        brought (λ m. m.matrix.h12.re),
        brought (λ m. m.matrix.h12.im),
        brought (λ m. m.matrix.h21.re),
        brought (λ m. m.matrix.h21.im),
        brought (λ m. m.matrix.h22.re),
        brought (λ m. m.matrix.h22.im),
      )
    where
      brought : (number : Kept → Float) → map_coefficients (tabulate (λ j. number (kept_here j)) 34) new ≡ map_coefficients (tabulate (λ j. number (kept_there j)) 34) new
      brought number = numbers_same (λ j. number (kept_here j)) (λ j. number (kept_there j)) (λ j u. ap number (same j u))
