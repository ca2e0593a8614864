-- The rows that a line resolves to, and those kept after it, are rows that memory keeps. Assumes nothing.
use Rattle.std.specs.Prelude.{Result, Ok, Err}
use mathlib.Core.List.{List, [], ◌∷◌, ◌++◌}
use Prim.Native.Nat.{ℕ, zero, suc, ◌+◌, ◌≤◌, ◌<◌, min}
use native.Mathlib.Omega.{arith}
use lib.Dec.{eqb}
use lib.IntN.{ℤ, pos}
use lib.ListN.{length, drop, get_or, replicate}
use lib.Signed.{mag}
use Rattle.calls.specs.Cues.{envelope_row}
use Rattle.answer.specs.declared.Answer.{Answer}
use Rattle.cue.specs.declared.Block.{Block}
use Rattle.cue.specs.declared.Cue.{Cue}
use Rattle.cue.specs.declared.Header.{Header}
use Rattle.cue.specs.declared.Places.{Places}
use Rattle.cue.specs.Line.{read_line}
use Rattle.integers.proofs.Sizes.{between}
use Rattle.limits.specs.Limits as limits
use Rattle.lists.proofs.Padded.{padded_length}
use Rattle.ps_data.specs.declared.PsLines.{PsLines}
use Rattle.ps_data.specs.declared.Resolved.{Resolved}
use Rattle.ps_data.specs.Indices.{kind_of, resolved, by_line, resolve_line, left_by}
use Rattle.ps_rows.specs.declared.Kind.{Kind}
use Rattle.ps_rows.specs.declared.Kind.TheVariants.{Coarse, Fine, Coherence, Phase}
use Rattle.ps_rows.specs.declared.Row.{Row}
use Rattle.ps_rows.specs.declared.ResolvedKind.{ResolvedKind}
use Rattle.ps_rows.specs.declared.Rows.{Rows}
use Rattle.ps_rows.specs.Rows.{row_of, rows_of, padded_row, padded_rows, start_of, last_of, resolve_kind}
use Rattle.ps_rows.proofs.Ranges.{lowest, highest, InRange, AllInRange, row_length, rows_in_range, resolved_in_range}
use Rattle.ps_memory.specs.Shape.{Narrow, RowKept, IndicesKept}
use Rattle.ps_memory.proofs.Narrow.{either, narrow_none, narrow_append, narrow_take, narrow_zeros}

-- ---- a row

in_range_small : (kind : Kind) (z : ℤ) → InRange kind z → mag z < 128
in_range_small Coarse z r = between (lowest Coarse) (highest Coarse) z 128 r.low r.high (omega arith) (omega arith)
in_range_small Fine z r = between (lowest Fine) (highest Fine) z 128 r.low r.high (omega arith) (omega arith)
in_range_small Coherence z r = between (lowest Coherence) (highest Coherence) z 128 r.low r.high (omega arith) (omega arith)
in_range_small Phase z r = between (lowest Phase) (highest Phase) z 128 r.low r.high (omega arith) (omega arith)

in_range_narrow : (kind : Kind) (row : List ℤ) → AllInRange kind row → Narrow row
in_range_narrow kind row r = record { at = λ i. in_range_small kind (get_or row i (pos 0)) (r i) }

held_kept : (row : List ℤ) → Narrow row → length row ≤ 34 → RowKept (padded_row row)
held_kept row narrow short =
    record {
      count = short;
      long = padded_length (pos 0) 34 row;
      narrow = narrow_take 34 (row ++ replicate 34 (pos 0)) (narrow_append row (replicate 34 (pos 0)) narrow (narrow_zeros 34));
    }

pub none_kept : RowKept (padded_row [])
none_kept = held_kept [] narrow_none (omega arith)

-- ---- the rows of a kind

rows_short : (kind : Kind) (count : ℕ) (old : List ℤ) (bytes : List ℕ) (n e : ℕ) → count ≤ 34 → length (get_or (rows_of kind count old bytes n) e []) ≤ 34
unfolding rows_of
rows_short kind count old bytes zero e h = omega arith
rows_short kind count old bytes (suc n) zero h = omega (arith, row_length kind count old bytes)
rows_short kind count old bytes (suc n) (suc e) h = rows_short kind count (row_of kind count old bytes) (drop (count + 1) bytes) n e h

last_kept : (kept : Row) (rows : List (List ℤ)) → RowKept kept → ((e : ℕ) → Narrow (get_or rows e [])) → ((e : ℕ) → length (get_or rows e []) ≤ 34)
    → RowKept (last_of kept rows)
last_kept kept [] k narrow short = k
last_kept kept (row ∷ rows) k narrow short =
    last_kept (padded_row row) rows (held_kept row (narrow 0) (short 0)) (λ e. narrow (suc e)) (λ e. short (suc e))

-- every envelope's row is narrow
pub record RowsNarrow (rows : Rows) : Type 0 where
  pub at : (e : ℕ) → Narrow (envelope_row rows e).at

module _ (kind : Kind) (kept : Row) (envelopes count : ℕ) (bytes : List ℕ) where
  abbrev rows : List (List ℤ)
  rows = rows_of kind (min count 34) (start_of kept (min count 34)) bytes (min envelopes limits.envelopes)

  resolved_kept : RowKept kept → RowKept (resolve_kind kind kept envelopes count bytes).kept
  unfolding resolve_kind
  resolved_kept k =
      last_kept kept rows k (λ e. in_range_narrow kind (get_or rows e []) (rows_in_range kind _ _ bytes (min envelopes limits.envelopes) e))
      (λ e. rows_short kind (min count 34) _ bytes (min envelopes limits.envelopes) e (omega arith))

  resolved_narrow : RowsNarrow (resolve_kind kind kept envelopes count bytes).rows
  resolved_narrow = record { at = λ e. in_range_narrow kind _ (resolved_in_range kind kept envelopes count bytes e) }

-- the rows of nothing are those of no envelope
pub nothing_narrow : RowsNarrow (padded_rows [])
unfolding resolve_kind rows_of
nothing_narrow = resolved_narrow Phase (padded_row []) 0 0 []

module _ (kind : Kind) (kept : Row) (envelopes : ℕ) (k : Block) (bytes : List ℕ) where
  abbrev behind : List ℕ
  behind = drop k.place bytes

  kind_kept : RowKept kept → RowKept (kind_of kind kept envelopes k bytes).kept
  kind_kept h = either (λ (r : ResolvedKind). RowKept r.kept) k.present _ _ (resolved_kept kind kept envelopes k.count behind h) none_kept

  kind_narrow : RowsNarrow (kind_of kind kept envelopes k bytes).rows
  kind_narrow = either (λ (r : ResolvedKind). RowsNarrow r.rows) k.present _ _ (resolved_narrow kind kept envelopes k.count behind) nothing_narrow

-- ---- a line

pub record ResolvedKept (r : Resolved) : Type 0 where
  pub rows : IndicesKept r.lines.rows
  pub ipd : RowsNarrow r.indices.ipd
  pub opd : RowsNarrow r.indices.opd

module _ (s : PsLines) (kept : IndicesKept s.rows) where
  header_kept : (h : Header) (at : Places) (bytes : List ℕ) → ResolvedKept (resolved s h at bytes)
  unfolding resolved
  header_kept h at bytes =
      record {
        rows =
            record {
              iid = kind_kept _ _ _ at.iid _ kept.iid;
              icc = kind_kept _ _ _ at.icc _ kept.icc;
              ipd = kind_kept _ _ _ at.ipd _ kept.ipd;
              opd = kind_kept _ _ _ at.opd _ kept.opd;
            };
        ipd = kind_narrow _ _ _ at.ipd _;
        opd = kind_narrow _ _ _ at.opd _;
      }

  by_line_kept : (read : Result Cue Answer) → ResolvedKept (left_by s (by_line s read))
  by_line_kept (Err a) = record { rows = kept; ipd = nothing_narrow; opd = nothing_narrow }
  by_line_kept (Ok q) =
      either ResolvedKept (eqb q.header.envelopes 0) _ _ (record { rows = kept; ipd = nothing_narrow; opd = nothing_narrow }) (header_kept q.header q.places q.bytes)

  pub line_kept : (text : List ℕ) → ResolvedKept (left_by s (resolve_line s text))
  unfolding resolve_line
  line_kept text = by_line_kept (read_line text)
