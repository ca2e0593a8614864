-- Rows in their places: what a loop has filled from the front is the row and the zeros after it, and the row is read back from there. Assumes nothing.
use mathlib.Core.Path.{◌≡◌, refl}
use mathlib.Core.List.{List, [], ◌∷◌, ◌++◌, map}
use Prim.Native.Nat.{ℕ, zero, suc, ◌≤◌}
use lib.IntN.{ℤ, pos}
use lib.ListN.{length, take, get_or, replicate, length-map}
use Rattle.limits.specs.Limits as limits
use Rattle.lists.proofs.Fills.{Filled, filled_all}
use Rattle.lists.proofs.Padded.{padded_front, padded_take}
use Rattle.ps_rows.specs.declared.Row.{Row}
use Rattle.ps_rows.specs.declared.Rows.{Rows}
use Rattle.ps_rows.specs.Rows.{padded_row, padded_rows}

-- ---- a row, and rows, when the loop that fills their places is done
pub held_row : {row l : List ℤ} {i : ℕ} (n : ℕ) → Filled [] row (replicate 34 (pos 0)) l i → length row ≡ n → n ≤ 34 → ◌≡◌ {A = Row} (record { at = l; used = n }) (padded_row row)
held_row {row} n f e h = rw (← e, filled_all f, ← padded_front (pos 0) 34 row (rw e h))

pub held_rows : (rows : List (List ℤ)) {l : List Row} {i : ℕ} (n : ℕ) → Filled [] (map padded_row rows) (replicate limits.envelopes (padded_row [])) l i → length rows ≡ n → n ≤ limits.envelopes → ◌≡◌ {A = Rows} (record { row = l; used = n }) (padded_rows rows)
held_rows rows n f e h =
    let long : length (map padded_row rows) ≤ limits.envelopes = rw (length-map rows padded_row, e) h in
    rw (← e, filled_all f, ← padded_front (padded_row []) limits.envelopes (map padded_row rows) long)

-- ---- a row that is read back from its places
pub read_back : (row : List ℤ) (n : ℕ) → length row ≡ n → n ≤ 34 → take n (padded_row row).at ≡ row
read_back row n e h = rw (← e) (padded_take (pos 0) 34 row (rw e h))

module _ {A : Type 0} where
  -- a list that is padded reads past its end as the element that pads it
  pub read_on : (l : List A) (n i : ℕ) (z : A) → get_or (l ++ replicate n z) i z ≡ get_or l i z
  read_on [] zero i z = refl
  read_on [] (suc n) zero z = refl
  read_on [] (suc n) (suc i) z = read_on [] n i z
  read_on (x ∷ l) n zero z = refl
  read_on (x ∷ l) n (suc i) z = read_on l n i z
