-- §8.5.2, document 01, 'Indices': the rows of one kind, envelope after envelope. Assumes nothing.
use Rattle.std.specs.Prelude.{ℕ, zero, suc, ◌+◌, min, List, [], ◌∷◌, map, cond, eqb, ℤ, pos, length, replicate, take, drop, get_or}
use Rattle.limits.specs.Limits as limits
use Rattle.lists.specs.Padded.{padded}
use Rattle.ps_rows.specs.declared.Kind.{Kind}
use Rattle.ps_rows.specs.declared.Row.{Row}
use Rattle.ps_rows.specs.declared.Rows.{Rows}
use Rattle.ps_rows.specs.declared.ResolvedKind.{ResolvedKind}
use Rattle.ps_rows.specs.Steps.{step}

-- ---- a row

-- over frequency: each index starts from the one before it, the first from 0
unfoldable pub frequency_row : Kind → ℤ → List ℕ → List ℤ
frequency_row kind previous [] = []
frequency_row kind previous (d ∷ deltas) = step kind previous d ∷ frequency_row kind (step kind previous d) deltas

-- over time: each index starts from that of the same band in the old row, or from 0 past its end
unfoldable pub time_row : Kind → List ℤ → List ℕ → List ℤ
time_row kind old [] = []
time_row kind [] (d ∷ deltas) = step kind (pos 0) d ∷ time_row kind [] deltas
time_row kind (p ∷ old) (d ∷ deltas) = step kind p d ∷ time_row kind old deltas

-- the deltas after an envelope's time byte
abbrev pub deltas_of : ℕ → List ℕ → List ℕ
deltas_of count bytes = padded count 0 (drop 1 bytes)

-- an envelope: a byte 0 (frequency) or 1 (time), and its deltas
unfoldable pub row_of : Kind → ℕ → List ℤ → List ℕ → List ℤ
row_of kind count old bytes =
    cond (eqb (get_or bytes 0 0) 1) (time_row kind old (deltas_of count bytes)) (frequency_row kind (pos 0) (deltas_of count bytes))

-- ---- the rows of a frame

-- each envelope's time row starts from the envelope before it
unfoldable pub rows_of : Kind → ℕ → List ℤ → List ℕ → ℕ → List (List ℤ)
rows_of kind count old bytes zero = []
rows_of kind count old bytes (suc envelopes) = row_of kind count old bytes ∷ rows_of kind count (row_of kind count old bytes) (drop (count + 1) bytes) envelopes

-- a row in its 34 places: zeros after it
abbrev pub padded_row : List ℤ → Row
padded_row row = record { at = padded 34 (pos 0) row; used = length row }

-- rows in a frame's places
abbrev pub padded_rows : List (List ℤ) → Rows
padded_rows rows = record { row = padded limits.envelopes (padded_row []) (map padded_row rows); used = length rows }

-- the first envelope's time row starts from the kept row if its length is the count, otherwise from zeros
abbrev pub start_of : Row → ℕ → List ℤ
start_of kept count = cond (eqb kept.used count) (take count kept.at) (replicate count (pos 0))

-- the last envelope's row is kept; without envelopes the kept row stays
abbrev pub last_of : Row → List (List ℤ) → Row
last_of kept [] = kept
last_of kept (row ∷ rows) = last_of (padded_row row) rows

abbrev pub resolved_from : Row → List (List ℤ) → ResolvedKind
resolved_from kept rows = record { rows = padded_rows rows; kept = last_of kept rows }

-- at most so many envelopes, of at most 34 parameters
unfoldable pub resolve_kind : Kind → Row → ℕ → ℕ → List ℕ → ResolvedKind
resolve_kind kind kept envelopes count bytes =
    resolved_from kept (rows_of kind (min count 34) (start_of kept (min count 34)) bytes (min envelopes limits.envelopes))
