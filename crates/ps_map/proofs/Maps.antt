-- Which case of `map_row` a row's length and a layout pick. Assumes nothing.
use mathlib.Core.Path.{◌≡◌, refl, ap, ◌∙◌}
use mathlib.Core.List.{List, ◌++◌, map}
use Prim.Native.Nat.{ℕ, ◌*◌}
use native.Mathlib.Omega.{arith}
use borrow.Author.Tests.{eq-eqb, ne_eqb}
use lib.IntN.{ℤ, pos}
use lib.ListN.{length, take, replicate}
use lib.Seq.{take-take, take_at}
use Rattle.layout.specs.declared.Layout.{Layout}
use Rattle.layout.specs.declared.Layout.TheVariants.{Bands20, Bands34}
use Rattle.layout.specs.Numbers.{bands_of}
use Rattle.ps_map.specs.Maps.{index_from, duplicated, map_row, padded_row}
use Rattle.ps_map.specs.Tables.{sources_of}
use Rattle.ps_map.proofs.Duplicates.{duplicated_length}

module _ (v : List ℤ) where
  pub kept : (l : Layout) → length v ≡ bands_of l → map_row v l ≡ v
  unfolding map_row
  kept l h = simp (eq-eqb _ _ h)

  pub from_other : (l : Layout) → (length v ≡ bands_of l → ⊥) → (length v ≡ 10 → ⊥) → map_row v l ≡ map (index_from v) (sources_of l)
  unfolding map_row
  from_other l h k = simp (ne_eqb _ _ h, ne_eqb _ _ k)

  pub ten_to_twenty : (l : Layout) → length v ≡ 10 → bands_of l ≡ 20 → map_row v l ≡ duplicated v
  unfolding map_row
  ten_to_twenty Bands20 h e = rw h
  ten_to_twenty Bands34 h e = absurd (omega arith)

  pub ten_by_twenty : (l : Layout) → length v ≡ 10 → (bands_of l ≡ 20 → ⊥) → map_row v l ≡ map (index_from (duplicated v)) (sources_of l)
  unfolding map_row
  ten_by_twenty Bands20 h ne = absurd (ne refl)
  ten_by_twenty Bands34 h ne = rw h

  -- the 20 places that 10 numbers take, each twice
  pub first_twenty : length v ≡ 10 → take 20 (padded_row (duplicated v)) ≡ duplicated v
  first_twenty h =
      let long : length (duplicated v) ≡ 20 = duplicated_length v ∙ ap (λ (n : ℕ). 2 * n) h in
      take-take 20 34 (duplicated v ++ replicate 34 (pos 0)) (omega arith) ∙ take_at (duplicated v) (replicate 34 (pos 0)) 20 long
