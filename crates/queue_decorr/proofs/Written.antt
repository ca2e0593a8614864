-- What stands in rows of 91 complex numbers: number k of row n, read where it was written. Assumes nothing.
use Prim.Native.Nat.{ℕ, ◌+◌, ◌*◌, ◌<◌, ◌≤◌}
use native.Mathlib.Omega.{arith}
use mathlib.Core.Path.{◌≡◌, refl, ap, ◌∙◌}
use mathlib.Core.List.{List, [], ◌∷◌}
use lib.Ieee.{Float, nan}
use lib.ListN.{length, drop, get_or, length-append, length-drop, get_or-append}
use Rattle.complex.specs.declared.Complex.{Complex}
use Rattle.layout.specs.declared.Layout.{Layout}
use Rattle.layout.specs.Numbers.{channels_of}
use Rattle.layout.proofs.Bounds.{bounds}
use Rattle.lists.specs.Part.{part}
use Rattle.lists.specs.Rows.{rows}
use Rattle.lists.proofs.Parts.{part_length}
use Rattle.lists.proofs.Rows.{rows_length, rows_at}
use Rattle.plain_slots.specs.Rows.{row_with, in_row}
use Rattle.planar.specs.Cells.{cell, side_by_side}
use Rattle.planar.proofs.Cells.{by_parts}
use Rattle.queue_decorr.specs.Frame.{rows_with}

-- ---- a row

abbrev pair : (ℕ → Complex) → ℕ → List Float
pair z k = (z k).re ∷ (z k).im ∷ []

module _ (z : ℕ → Complex) (count : ℕ) where
  pairs_length : length (side_by_side z count) ≡ 2 * count
  pairs_length = rows_length (pair z) 2 count (λ k u. refl) ∙ omega arith

  pair_at : (k j : ℕ) → k < count → j < 2 → get_or (side_by_side z count) (2 * k + j) nan ≡ get_or (pair z k) j nan
  pair_at k j u v =
      let place : 2 * k + j ≡ k * 2 + j = omega arith in
      ap (λ (i : ℕ). get_or (side_by_side z count) i nan) place ∙ rows_at (pair z) 2 count (λ i w. refl) k j nan u v

  module _ (old : List Float) where
    pub row_length : 2 * count ≤ length old → length (row_with count z old) ≡ length old
    unfolding row_with
    row_length room = length-append (side_by_side z count) (drop (2 * count) old) ∙ rw (pairs_length, length-drop) (omega arith)

    row_at_lem : (k j : ℕ) → k < count → j < 2 → get_or (row_with count z old) (2 * k + j) nan ≡ get_or (pair z k) j nan
    unfolding row_with
    row_at_lem k j u v = get_or-append (side_by_side z count) (drop (2 * count) old) nan (2 * k + j) (rw pairs_length (omega arith)) ∙ pair_at k j u v

-- number k of a row
pub in_row_lem : (z : ℕ → Complex) (count : ℕ) (old : List Float) (k : ℕ) → k < count → in_row (row_with count z old) k ≡ z k
in_row_lem z count old k u =
    let first : 2 * k ≡ 2 * k + 0 = omega arith in
    by_parts (ap (λ (i : ℕ). get_or (row_with count z old) i nan) first ∙ row_at_lem z count old k 0 u (omega arith)) (row_at_lem z count old k 1 u (omega arith))

-- ---- row after row

module _ (l : Layout) (d : ℕ → ℕ → Complex) (slots : ℕ) (old : List Float) (room : 182 * slots ≤ length old) where
  abbrev row_at : ℕ → List Float
  row_at n = row_with (channels_of l) (d n) (part (182 * n) 182 old)

  row_long : (n : ℕ) → n < slots → length (row_at n) ≡ 182
  row_long n u =
      let long : length (part (182 * n) 182 old) ≡ 182 = part_length (182 * n) 182 old (omega arith) in
      row_length (d n) (channels_of l) (part (182 * n) 182 old) (rw long (omega (arith, (bounds l).channels))) ∙ long

  number_at : (n k j : ℕ) → n < slots → k < channels_of l → j < 2 → get_or (rows_with l d slots old) (182 * n + 2 * k + j) nan ≡ get_or (pair (d n) k) j nan
  unfolding rows_with
  number_at n k j u v w =
      let place : 182 * n + 2 * k + j ≡ n * 182 + (2 * k + j) = omega arith in
      let inside : 2 * k + j < 182 = omega (arith, (bounds l).channels) in
      get_or-append (rows row_at slots) (drop (182 * slots) old) nan (182 * n + 2 * k + j) (rw (rows_length row_at 182 slots row_long) (omega arith))
      ∙ ap (λ (i : ℕ). get_or (rows row_at slots) i nan) place
      ∙ rows_at row_at 182 slots row_long n (2 * k + j) nan u inside
      ∙ row_at_lem (d n) (channels_of l) (part (182 * n) 182 old) k j v w

  pub written_is : (n k : ℕ) → n < slots → k < channels_of l → cell 1 (rows_with l d slots old) (182 * n + 2 * k) ≡ d n k
  written_is n k u v =
      let first : 182 * n + 2 * k ≡ 182 * n + 2 * k + 0 = omega arith in
      by_parts
      (ap (λ (i : ℕ). get_or (rows_with l d slots old) i nan) first ∙ number_at n k 0 u v (omega arith))
      (number_at n k 1 u v (omega arith))
