-- A change of layout: the coefficients remapped over flat numbers are those that the definitions remap, band by band, and no phase is kept.
-- Assumes nothing.
use mathlib.Core.Path.{◌≡◌, sym, ap, ◌∙◌}
use mathlib.Core.List.{List, map}
use Prim.Native.Nat.{ℕ, ◌+◌, ◌*◌, ◌<◌}
use native.Mathlib.Nat.{mul_comm}
use native.Mathlib.Omega.{arith}
use lib.Ieee.{Float, nan}
use lib.IntN.{ℤ, pos}
use lib.ListN.{length, get_or, replicate, get_or-replicate}
use Rattle.layout.specs.declared.Layout.{Layout}
use Rattle.lists.specs.Part.{part}
use Rattle.lists.specs.Rows.{tabulate}
use Rattle.lists.proofs.Padded.{padded_length}
use Rattle.lists.proofs.Maps.{tabulate_length, tabulate_at, tabulate_same}
use Rattle.lists.proofs.Parts.{part_at}
use Rattle.lists.proofs.Places.{any_default}
use Rattle.lists.proofs.Rows.{rows_length, rows_part}
use Rattle.ps_map.specs.Maps.{whole, coefficient_from, map_coefficients}
use Rattle.ps_map.specs.Tables.{sources_of}
use Rattle.ps_stereo.specs.declared.PsStereo.{PsStereo}
use Rattle.ps_stereo.specs.State.{part_of, remapped_to, switched_to}
use Rattle.ps_stereo.specs.Kept.{kept_in}
use Rattle.standard.specs.Core.{remapped}
use Rattle.standard.specs.Mixing.{Kept}
use Rattle.standard.specs.Numbers.{zero}

-- every layout's coefficients stand in 34 places
mapped_length : (v : List Float) (l : Layout) → length (map_coefficients v l) ≡ 34
unfolding map_coefficients
mapped_length v l = padded_length (whole 0) 34 (map (coefficient_from v) (sources_of l))

module _ (l : Layout) (m : List Float) where
  -- the row of band b
  abbrev row : ℕ → List Float
  row b = tabulate (λ c. get_or (map_coefficients (part_of m c) l) b nan) 8

  row_long_lem : (b : ℕ) → b < 34 → length (row b) ≡ 8
  row_long_lem b u = tabulate_length (λ c. get_or (map_coefficients (part_of m c) l) b nan) 8

  pub remapped_length : length (remapped_to l m) ≡ 272
  unfolding remapped_to
  remapped_length = rows_length row 8 34 row_long_lem

  -- number c of band b, as the definitions have it
  number_same : (b c : ℕ) → b < 34 → c < 8
      → get_or (part (8 * b) 8 (remapped_to l m)) c nan ≡ get_or (map_coefficients (tabulate (λ j. get_or (part (8 * j) 8 m) c nan) 34) l) b zero
  unfolding remapped_to
  number_same b c u v =
      ap (λ (n : ℕ). get_or (part n 8 (remapped_to l m)) c nan) (mul_comm 8 b)
      ∙ ap (λ (r : List Float). get_or r c nan) (rows_part row 8 34 row_long_lem b u)
      ∙ tabulate_at (λ e. get_or (map_coefficients (part_of m e) l) b nan) 8 c nan v
      ∙ any_default (map_coefficients (part_of m c) l) b nan zero (rw (mapped_length (part_of m c) l) u)
      ∙ ap (λ (t : List Float). get_or (map_coefficients t l) b zero)
      (tabulate_same (λ j. get_or m (8 * j + c) nan) (λ j. get_or (part (8 * j) 8 m) c nan) 34 (λ j w. sym (part_at (8 * j) 8 m c nan v)))

-- ---- what a band keeps, of eight numbers and four phase indices

abbrev kept_from : (ℕ → Float) → ℤ → ℤ → ℤ → ℤ → Kept
kept_from f oldest previous older last =
    record {
      matrix =
          record {
            h11 = record { re = f 0; im = f 1 };
            h12 = record { re = f 2; im = f 3 };
            h21 = record { re = f 4; im = f 5 };
            h22 = record { re = f 6; im = f 7 };
          };
      ipd = record { oldest = oldest; previous = previous };
      opd = record { oldest = older; previous = last };
    }

kept_same : (f g : ℕ → Float) (p : ℕ → ℤ) (z : ℤ) (b : ℕ)
    → ((c : ℕ) → c < 8 → f c ≡ g c) → ((i : ℕ) → i < 136 → p i ≡ z) → b < 34
    → kept_from f (p (4 * b)) (p (4 * b + 1)) (p (4 * b + 2)) (p (4 * b + 3)) ≡ kept_from g z z z z
kept_same f g p z b same all u =
    rw (
      same 0 (omega arith),
      same 1 (omega arith),
      same 2 (omega arith),
      same 3 (omega arith),
      same 4 (omega arith),
      same 5 (omega arith),
      same 6 (omega arith),
      same 7 (omega arith),
      all (4 * b) (omega arith),
      all (4 * b + 1) (omega arith),
      all (4 * b + 2) (omega arith),
      all (4 * b + 3) (omega arith),
    )

pub remapped_kept : (l : Layout) (s : PsStereo) (b : ℕ) → b < 34
    → kept_in (switched_to l s).matrices (switched_to l s).phases b ≡ remapped l (kept_in s.matrices s.phases) b
unfolding switched_to remapped
remapped_kept l s b u =
    let m = s.matrices in
    kept_same
    (λ c. get_or (part (8 * b) 8 (remapped_to l m)) c nan)
    (λ c. get_or (map_coefficients (tabulate (λ j. get_or (part (8 * j) 8 m) c nan) 34) l) b zero)
    (λ i. get_or (replicate 136 (pos 0)) i (pos 0))
    (pos 0)
    b
    (λ c v. number_same l m b c u v)
    (λ i v. get_or-replicate 136 i (pos 0) (pos 0) v)
    u
