-- How long the resolved rows are, and that each index lies in the range of its kind, whatever the old row and the deltas were. Assumes nothing.
use mathlib.Core.Path.{◌≡◌, refl, ap, ◌∙◌}
use mathlib.Core.Bool.{Bool, true, false, cond}
use mathlib.Core.List.{List, [], ◌∷◌, ◌++◌, map}
use Prim.Native.Nat.{ℕ, zero, suc, ◌+◌, ◌-◌, ◌%◌, min}
use native.Mathlib.Omega.{arith}
use borrow.Author.Tests.{le-ltb}
use lib.Dec.{eqb}
use lib.IntN.{ℤ, pos, negsuc, ◌+ℤ◌}
use lib.ListN.{length, take, drop, get_or, replicate, length-append, length-replicate, get_or-map}
use lib.Seq.{length-take-le}
use lib.Signed.{lt_z}
use Rattle.limits.specs.Limits as limits
use Rattle.integers.specs.Integers.{byte_z}
use Rattle.integers.proofs.Ranges.{clamp_low, clamp_high, wrap_low}
use Rattle.ps_rows.specs.declared.Kind.{Kind}
use Rattle.ps_rows.specs.declared.Kind.TheVariants.{Coarse, Fine, Coherence, Phase}
use Rattle.ps_rows.specs.declared.Row.{Row}
use Rattle.ps_rows.specs.Steps.{within, step}
use Rattle.ps_rows.specs.Rows.{frequency_row, time_row, deltas_of, row_of, rows_of, padded_row, start_of, resolve_kind}
use Rattle.ps_rows.proofs.Places.{read_on}

-- ---- lengths
pub deltas_length : (count : ℕ) (bytes : List ℕ) → length (deltas_of count bytes) ≡ count
deltas_length count bytes = length-take-le count (drop 1 bytes ++ replicate count 0) (simp (length-append, length-replicate) (omega arith))

pub frequency_length : (kind : Kind) (previous : ℤ) (deltas : List ℕ) → length (frequency_row kind previous deltas) ≡ length deltas
unfolding frequency_row
frequency_length kind previous [] = refl
frequency_length kind previous (d ∷ deltas) = ap suc (frequency_length kind (step kind previous d) deltas)

pub time_length : (kind : Kind) (old : List ℤ) (deltas : List ℕ) → length (time_row kind old deltas) ≡ length deltas
unfolding time_row
time_length kind old [] = refl
time_length kind [] (d ∷ deltas) = ap suc (time_length kind [] deltas)
time_length kind (p ∷ old) (d ∷ deltas) = ap suc (time_length kind old deltas)

-- what holds of a row of either sort holds of an envelope's row
either : (P : List ℤ → Type 0) (t : Bool) (over_time over_frequency : List ℤ) → P over_time → P over_frequency → P (cond t over_time over_frequency)
either P true a b p q = p
either P false a b p q = q

pub row_length : (kind : Kind) (count : ℕ) (old : List ℤ) (bytes : List ℕ) → length (row_of kind count old bytes) ≡ count
unfolding row_of
row_length kind count old bytes =
    either (λ (row : List ℤ). length row ≡ count) (eqb (get_or bytes 0 0) 1) _ _
    (time_length kind _ (deltas_of count bytes) ∙ deltas_length count bytes)
    (frequency_length kind _ (deltas_of count bytes) ∙ deltas_length count bytes)

pub rows_length : (kind : Kind) (count : ℕ) (old : List ℤ) (bytes : List ℕ) (n : ℕ) → length (rows_of kind count old bytes n) ≡ n
unfolding rows_of
rows_length kind count old bytes zero = refl
rows_length kind count old bytes (suc n) = ap suc (rows_length kind count (row_of kind count old bytes) (drop (count + 1) bytes) n)

-- ---- ranges: IID -7..7 or, fine, -15..15; ICC, IPD and OPD 0..7
abbrev pub lowest : Kind → ℤ
lowest Coarse = negsuc 6
lowest Fine = negsuc 14
lowest Coherence = pos 0
lowest Phase = pos 0

abbrev pub highest : Kind → ℤ
highest Coarse = pos 7
highest Fine = pos 15
highest Coherence = pos 7
highest Phase = pos 7

pub record InRange (kind : Kind) (z : ℤ) : Type 0 where
  pub low : lt_z z (lowest kind) ≡ false
  pub high : lt_z (highest kind) z ≡ false

within_in_range : (kind : Kind) (z : ℤ) → InRange kind (within kind z)
within_in_range Coarse z = record { low = clamp_low (negsuc 6) (pos 7) z refl; high = clamp_high (negsuc 6) (pos 7) z refl }
within_in_range Fine z = record { low = clamp_low (negsuc 14) (pos 15) z refl; high = clamp_high (negsuc 14) (pos 15) z refl }
within_in_range Coherence z = record { low = clamp_low (pos 0) (pos 7) z refl; high = clamp_high (pos 0) (pos 7) z refl }
within_in_range Phase (pos n) = record { low = wrap_low (pos n); high = le-ltb 7 (n % 8) (omega arith) }
within_in_range Phase (negsuc n) = record { low = wrap_low (negsuc n); high = le-ltb 7 (7 - n % 8) (omega arith) }

zero_in_range : (kind : Kind) → InRange kind (pos 0)
zero_in_range Coarse = record { low = refl; high = refl }
zero_in_range Fine = record { low = refl; high = refl }
zero_in_range Coherence = record { low = refl; high = refl }
zero_in_range Phase = record { low = refl; high = refl }

pub step_in_range : (kind : Kind) (previous : ℤ) (delta : ℕ) → InRange kind (step kind previous delta)
unfolding step
step_in_range kind previous delta = within_in_range kind (previous +ℤ byte_z delta)

-- every place of a row, also past its end, where it reads as 0
abbrev pub AllInRange : Kind → List ℤ → Type 0
AllInRange kind row = (i : ℕ) → InRange kind (get_or row i (pos 0))

frequency_in_range : (kind : Kind) (previous : ℤ) (deltas : List ℕ) → AllInRange kind (frequency_row kind previous deltas)
unfolding frequency_row
frequency_in_range kind previous [] i = zero_in_range kind
frequency_in_range kind previous (d ∷ deltas) zero = step_in_range kind previous d
frequency_in_range kind previous (d ∷ deltas) (suc i) = frequency_in_range kind (step kind previous d) deltas i

time_in_range : (kind : Kind) (old : List ℤ) (deltas : List ℕ) → AllInRange kind (time_row kind old deltas)
unfolding time_row
time_in_range kind old [] i = zero_in_range kind
time_in_range kind [] (d ∷ deltas) zero = step_in_range kind (pos 0) d
time_in_range kind [] (d ∷ deltas) (suc i) = time_in_range kind [] deltas i
time_in_range kind (p ∷ old) (d ∷ deltas) zero = step_in_range kind p d
time_in_range kind (p ∷ old) (d ∷ deltas) (suc i) = time_in_range kind old deltas i

pub row_in_range : (kind : Kind) (count : ℕ) (old : List ℤ) (bytes : List ℕ) → AllInRange kind (row_of kind count old bytes)
unfolding row_of
row_in_range kind count old bytes =
    either (AllInRange kind) (eqb (get_or bytes 0 0) 1) _ _
    (time_in_range kind _ (deltas_of count bytes))
    (frequency_in_range kind _ (deltas_of count bytes))

pub rows_in_range : (kind : Kind) (count : ℕ) (old : List ℤ) (bytes : List ℕ) (n e : ℕ) → AllInRange kind (get_or (rows_of kind count old bytes n) e [])
unfolding rows_of
rows_in_range kind count old bytes zero e i = zero_in_range kind
rows_in_range kind count old bytes (suc n) zero i = row_in_range kind count old bytes i
rows_in_range kind count old bytes (suc n) (suc e) i = rows_in_range kind count (row_of kind count old bytes) (drop (count + 1) bytes) n e i

-- ---- the same of the rows in their places
-- what holds at every place of a list, and of the default, holds at every place of its front
front : {A : Type 0} (P : A → Type 0) (z : A) → P z → (n : ℕ) (l : List A) → ((i : ℕ) → P (get_or l i z)) → (i : ℕ) → P (get_or (take n l) i z)
front P z o zero l h i = o
front P z o (suc n) [] h i = o
front P z o (suc n) (x ∷ l) h zero = h 0
front P z o (suc n) (x ∷ l) h (suc i) = front P z o n l (λ j. h (suc j)) i

held_in_range : (kind : Kind) (row : List ℤ) → AllInRange kind row → AllInRange kind (padded_row row).at
held_in_range kind row h =
    front (InRange kind) (pos 0) (zero_in_range kind) 34 (row ++ replicate 34 (pos 0)) (λ i. rw (read_on row 34 i (pos 0)) (h i))

module _ (kind : Kind) (kept : Row) (envelopes count : ℕ) (bytes : List ℕ) where
  abbrev rows : List (List ℤ)
  rows = rows_of kind (min count 34) (start_of kept (min count 34)) bytes (min envelopes limits.envelopes)

  in_range : (e : ℕ) → AllInRange kind (get_or rows e [])
  in_range = rows_in_range kind (min count 34) (start_of kept (min count 34)) bytes (min envelopes limits.envelopes)

  -- of a frame's rows, whatever the kept row was
  pub resolved_in_range : (e : ℕ) → AllInRange kind (get_or (resolve_kind kind kept envelopes count bytes).rows.row e (padded_row [])).at
  unfolding resolve_kind
  resolved_in_range =
      front (λ (row : Row). AllInRange kind row.at) (padded_row []) (held_in_range kind [] (λ i. zero_in_range kind)) limits.envelopes (map padded_row rows ++ replicate limits.envelopes (padded_row []))
      (λ e. rw (read_on (map padded_row rows) limits.envelopes e (padded_row []), get_or-map padded_row rows e []) (held_in_range kind (get_or rows e []) (in_range e)))
