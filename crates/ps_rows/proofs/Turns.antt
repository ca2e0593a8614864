-- One turn of each loop: what is left of a row, or of the rows, begins with what the turn writes. Assumes nothing.
use mathlib.Core.Path.{◌≡◌, ap, ◌∙◌}
use mathlib.Core.Bool.{Bool, true, false, cond}
use mathlib.Core.List.{List, [], ◌∷◌, ◌++◌, map}
use Prim.Native.Nat.{ℕ, suc, ◌+◌, ◌-◌, ◌<◌, ◌≤◌}
use native.Mathlib.Numerals.{add-one}
use native.Mathlib.Nat.{add-zero}
use native.Mathlib.Omega.{arith}
use lib.IntN.{ℤ, pos}
use lib.ListN.{length, take, drop, get_or, replicate, drop_of_length-le}
use lib.Seq.{drop-drop, drop-cons, get_or-take, get_or-drop}
use Rattle.ps_rows.specs.declared.Kind.{Kind}
use Rattle.ps_rows.specs.declared.Row.{Row}
use Rattle.ps_rows.specs.Steps.{step}
use Rattle.ps_rows.specs.Rows.{frequency_row, time_row, deltas_of, row_of, rows_of, padded_row, last_of}
use Rattle.ps_rows.proofs.Places.{read_on, read_back}
use Rattle.ps_rows.proofs.Ranges.{row_length}

-- ---- the time byte and a delta are the bytes that the code reads, past the end too
pub time_byte : (place : ℕ) (bytes : List ℕ) → get_or (drop place bytes) 0 0 ≡ get_or bytes place 0
time_byte place bytes = get_or-drop place bytes 0 0 ∙ ap (λ (m : ℕ). get_or bytes m 0) (add-zero place)

pub delta_at : (count place b : ℕ) (bytes : List ℕ) → b < count → get_or (deltas_of count (drop place bytes)) b 0 ≡ get_or bytes (place + 1 + b) 0
delta_at count place b bytes h =
    get_or-take count (drop 1 (drop place bytes) ++ replicate count 0) b 0 h
    ∙ read_on (drop 1 (drop place bytes)) count b 0
    ∙ ap (λ (l : List ℕ). get_or l b 0) (drop-drop 1 place bytes)
    ∙ get_or-drop (place + 1) bytes b 0

-- ---- a turn within a row, and its end
module _ (kind : Kind) (deltas : List ℕ) (b : ℕ) where
  pub frequency_turn : (previous v : ℤ) → b < length deltas → v ≡ step kind previous (get_or deltas b 0) → frequency_row kind previous (drop b deltas) ≡ v ∷ frequency_row kind v (drop (b + 1) deltas)
  unfolding frequency_row
  frequency_turn previous v h e = rw (drop-cons deltas b 0, add-one b, e)

  pub frequency_end : (previous : ℤ) → length deltas ≤ b → frequency_row kind previous (drop b deltas) ≡ []
  unfolding frequency_row
  frequency_end previous h = rw (drop_of_length-le deltas h)

  pub time_turn : (old : List ℤ) (v : ℤ) → b < length deltas → b < length old → v ≡ step kind (get_or old b (pos 0)) (get_or deltas b 0) → time_row kind (drop b old) (drop b deltas) ≡ v ∷ time_row kind (drop (b + 1) old) (drop (b + 1) deltas)
  unfolding time_row
  time_turn old v h k e = rw (drop-cons deltas b 0, drop-cons old b (pos 0), add-one b, e)

  pub time_end : (old : List ℤ) → length deltas ≤ b → time_row kind old (drop b deltas) ≡ []
  unfolding time_row
  time_end old h = rw (drop_of_length-le deltas h)

-- ---- a row that is begun: over time from the old row, over frequency from the index before
abbrev pub begun : Bool → Kind → ℤ → List ℤ → List ℕ → List ℤ
begun over_time kind previous old deltas = cond over_time (time_row kind old deltas) (frequency_row kind previous deltas)

module _ (kind : Kind) (old : List ℤ) (deltas : List ℕ) (b : ℕ) where
  pub row_turn : (over_time : Bool) (previous v : ℤ) → b < length deltas → b < length old → v ≡ step kind (cond over_time (get_or old b (pos 0)) previous) (get_or deltas b 0)
      → begun over_time kind previous (drop b old) (drop b deltas) ≡ v ∷ begun over_time kind v (drop (b + 1) old) (drop (b + 1) deltas)
  row_turn true previous v h k e = time_turn kind deltas b old v h k e
  row_turn false previous v h k e = frequency_turn kind deltas b previous v h e

  pub row_end : (over_time : Bool) (previous : ℤ) → length deltas ≤ b → begun over_time kind previous (drop b old) (drop b deltas) ≡ []
  row_end true previous h = time_end kind deltas b (drop b old) h
  row_end false previous h = frequency_end kind deltas b previous h

-- ---- a turn from one envelope to the next: from the places that hold its row, at the place behind its deltas
module _ (kind : Kind) (count : ℕ) (old : List ℤ) (bytes : List ℕ) (place limit e : ℕ) where
  -- the rows of the envelopes that are left, before the turn and after it
  abbrev left : List (List ℤ)
  left = rows_of kind count old (drop place bytes) (limit - e)

  abbrev left_after : Row → List (List ℤ)
  left_after next = rows_of kind count (take count next.at) (drop (place + (count + 1)) bytes) (limit - (e + 1))

  abbrev row : List ℤ
  row = row_of kind count old (drop place bytes)

  next_row : e < limit → count ≤ 34 → left ≡ row ∷ left_after (padded_row row)
  unfolding rows_of
  next_row inside few =
      let one_less : limit - e ≡ suc (limit - (e + 1)) = omega arith in
      rw (one_less, drop-drop (count + 1) place bytes, read_back row count (row_length kind count old (drop place bytes)) few)

  -- what fills the next place, and that the last row stays the same
  pub rows_turn : e < limit → count ≤ 34 → (next : Row) → next ≡ padded_row row → (map padded_row left ≡ next ∷ map padded_row (left_after next)) × ((last : Row) → last_of last left ≡ last_of next (left_after next))
  rows_turn inside few next is = (rw is (ap (map padded_row) (next_row inside few)), λ last. rw is (ap (last_of last) (next_row inside few)))
