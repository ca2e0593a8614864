-- Indices that are mapped to the bands of a layout stay small: an average is no larger than what it is of. Assumes nothing.
use mathlib.Core.Path.{◌≡◌, refl, sym, subst}
use mathlib.Core.Bool.{Bool, true, false}
use mathlib.Core.List.{List, [], ◌∷◌, ◌++◌, map}
use Prim.Native.Nat.{ℕ, suc, ◌*◌, ◌<◌, min}
use native.Mathlib.Omega.{arith}
use borrow.Author.Tests.{eqb-true, eqb-false}
use lib.Dec.{eqb}
use lib.IntN.{ℤ, pos, ◌+ℤ◌, ◌*ℤ◌}
use lib.ListN.{length, replicate}
use lib.Signed.{mag}
use Rattle.calls.specs.Cues.{indices_of, envelope_row, mapped_phases}
use Rattle.cue.specs.declared.Config.{Config}
use Rattle.cue.specs.Fields.{parameters_of}
use Rattle.integers.specs.Integers.{to_zero}
use Rattle.integers.proofs.Sizes.{mag_add, mag_scaled}
use Rattle.integers.proofs.Quotients.{quot_is, small}
use Rattle.layout.specs.declared.Layout.{Layout}
use Rattle.layout.specs.Numbers.{bands_of}
use Rattle.lists.specs.Padded.{padded}
use Rattle.ps_map.specs.declared.MapSrc.{MapSrc}
use Rattle.ps_map.specs.declared.MapSrc.TheVariants.{Single, Avg, Avg4, W21, W12}
use Rattle.ps_map.specs.Maps.{index_at, index_from, duplicated, map_row, extended_to}
use Rattle.ps_map.specs.Tables.{sources_of}
use Rattle.ps_map.proofs.Maps.{kept, from_other, ten_to_twenty, ten_by_twenty}
use Rattle.ps_rows.specs.declared.Rows.{Rows}
use Rattle.ps_memory.specs.Shape.{Narrow}
use Rattle.ps_memory.proofs.Narrow.{narrow_none, narrow_more, narrow_append, narrow_take, narrow_zeros}
use Rattle.ps_memory.proofs.Rows.{RowsNarrow}

-- ---- one index

average_small : (z : ℤ) (n : ℕ) → 0 < n → mag z < 128 * n → mag (to_zero z n) < 128
average_small z n h k = subst (λ (y : ℤ). mag y < 128) (quot_is z n) (small z n 128 h (omega arith) k)

module _ (v : List ℤ) (narrow : Narrow v) where
  index_small : (source : MapSrc) → mag (index_from v source) < 128
  index_small (Single i) = narrow.at i
  index_small (Avg i j) =
      average_small (index_at v i +ℤ index_at v j) 2 (omega arith) (omega (arith, mag_add (index_at v i) (index_at v j), narrow.at i, narrow.at j))
  index_small (Avg4 i j k l) =
      let a = index_at v i in
      let b = index_at v j in
      let c = index_at v k in
      let d = index_at v l in
      average_small (a +ℤ b +ℤ c +ℤ d) 4 (omega arith)
      (omega (arith, mag_add (a +ℤ b +ℤ c) d, mag_add (a +ℤ b) c, mag_add a b, narrow.at i, narrow.at j, narrow.at k, narrow.at l))
  index_small (W21 i j) =
      let a = index_at v i in
      let b = index_at v j in
      average_small (pos 2 *ℤ a +ℤ b) 3 (omega arith) (omega (arith, mag_add (pos 2 *ℤ a) b, mag_scaled 2 a, narrow.at i, narrow.at j))
  index_small (W12 i j) =
      let a = index_at v i in
      let b = index_at v j in
      average_small (a +ℤ pos 2 *ℤ b) 3 (omega arith) (omega (arith, mag_add a (pos 2 *ℤ b), mag_scaled 2 b, narrow.at i, narrow.at j))

  mapped_narrow : (sources : List MapSrc) → Narrow (map (index_from v) sources)
  mapped_narrow [] = narrow_none
  mapped_narrow (source ∷ sources) = narrow_more _ _ (index_small source) (mapped_narrow sources)

-- ---- a row

duplicated_narrow : (v : List ℤ) → Narrow v → Narrow (duplicated v)
duplicated_narrow [] n = narrow_none
duplicated_narrow (z ∷ v) n =
    narrow_more z (z ∷ duplicated v) (n.at 0)
    (narrow_more z (duplicated v) (n.at 0) (duplicated_narrow v (record { at = λ i. n.at (suc i) })))

held_narrow : (n : ℕ) (v : List ℤ) → Narrow v → Narrow (padded n (pos 0) v)
held_narrow n v h = narrow_take n (v ++ replicate n (pos 0)) (narrow_append v (replicate n (pos 0)) h (narrow_zeros n))

module _ (v : List ℤ) (l : Layout) (narrow : Narrow v) where
  other_narrow : (length v ≡ bands_of l → ⊥) → (ten twenty : Bool) → eqb (length v) 10 ≡ ten → eqb (bands_of l) 20 ≡ twenty → Narrow (map_row v l)
  other_narrow other false twenty e f =
      subst Narrow (sym (from_other v l other (eqb-false (length v) 10 e))) (mapped_narrow v narrow (sources_of l))
  other_narrow other true true e f =
      subst Narrow (sym (ten_to_twenty v l (eqb-true (length v) 10 e) (eqb-true (bands_of l) 20 f))) (duplicated_narrow v narrow)
  other_narrow other true false e f =
      subst Narrow (sym (ten_by_twenty v l (eqb-true (length v) 10 e) (eqb-false (bands_of l) 20 f)))
      (mapped_narrow (duplicated v) (duplicated_narrow v narrow) (sources_of l))

  row_narrow : Narrow (map_row v l)
  row_narrow = go (eqb (length v) (bands_of l)) refl
    where
      go : (same : Bool) → eqb (length v) (bands_of l) ≡ same → Narrow (map_row v l)
      go true e = subst Narrow (sym (kept v l (eqb-true (length v) (bands_of l) e))) narrow
      go false e = other_narrow (eqb-false (length v) (bands_of l) e) (eqb (length v) 10) (eqb (bands_of l) 20) refl refl

pub phases_narrow : (l : Layout) (config : Config) (kind : Rows) (e : ℕ) → RowsNarrow kind → Narrow (mapped_phases l config kind e)
unfolding mapped_phases
phases_narrow l config kind e narrow =
    let n = parameters_of config.iid in
    let row = envelope_row kind e in
    let v = indices_of row in
    held_narrow 34 (map_row (extended_to n v) l) (row_narrow (extended_to n v) l (held_narrow n v (narrow_take (min row.used 34) row.at (narrow.at e))))
