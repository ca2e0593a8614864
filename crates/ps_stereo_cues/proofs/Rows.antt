-- The indices of a row are its first places, as many as it uses, and those of a row of phases are the first of its 34 places once it is extended. Assumes nothing.
use mathlib.Core.Path.{◌≡◌, sym, ap, ◌∙◌}
use mathlib.Core.List.{List}
use Prim.Native.Nat.{ℕ, ◌≤◌, min}
use lib.IntN.{ℤ, pos}
use lib.ListN.{length, take}
use Rattle.calls.specs.Cues.{indices_of}
use Rattle.lists.proofs.Padded.{padded_length, padded_take}
use Rattle.ps_map.specs.Maps.{padded_row, extended_to}
use Rattle.ps_rows.specs.declared.Row.{Row}

pub used_indices : (row asked : Row) (count : ℕ) → row ≡ asked → count ≡ min row.used 34 → take count row.at ≡ indices_of asked
used_indices row asked count e n = ap (λ (k : ℕ). take k row.at) n ∙ ap indices_of e

-- the extended row is there again
pub extended_first : (n : ℕ) (v : List ℤ) → n ≤ 34 → take n (padded_row (extended_to n v)) ≡ extended_to n v
extended_first n v few =
    let long : length (extended_to n v) ≡ n = padded_length (pos 0) n v in
    ap (λ (k : ℕ). take k (padded_row (extended_to n v))) (sym long) ∙ padded_take (pos 0) 34 (extended_to n v) (rw long few)
