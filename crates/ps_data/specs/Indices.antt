-- §8.5.2, document 01, 'Indices': the absolute indices of a frame, and what the lines so far have left for the next one. Assumes nothing.
use Rattle.std.specs.Prelude.{ℕ, ◌%◌, min, List, [], Bool, false, cond, ◌||◌, ◌&&◌, eqb, replicate, take, drop, Result, Ok, Err}
use Rattle.limits.specs.Limits as limits
use Rattle.lists.specs.Padded.{padded}
use Rattle.answer.specs.declared.Answer.{Answer}
use Rattle.answer.specs.declared.Answer.TheVariants.{Done, Quiet}
use Rattle.ps_kinds.specs.declared.Kinds.{Kinds}
use Rattle.layout.specs.declared.Layout.{Layout}
use Rattle.layout.specs.declared.Layout.TheVariants.{Bands20, Bands34}
use Rattle.cue.specs.declared.Block.{Block}
use Rattle.cue.specs.declared.Config.{Config}
use Rattle.cue.specs.declared.Cue.{Cue}
use Rattle.cue.specs.declared.Parameter.{Parameter}
use Rattle.cue.specs.declared.Places.{Places}
use Rattle.cue.specs.declared.Header.{Header}
use Rattle.cue.specs.Fields.{fine_of}
use Rattle.cue.specs.Line.{no_header, read_line}
use Rattle.ps_rows.specs.declared.Kind.{Kind}
use Rattle.ps_rows.specs.declared.Kind.TheVariants.{Coarse, Fine, Coherence, Phase}
use Rattle.ps_rows.specs.declared.Row.{Row}
use Rattle.ps_rows.specs.declared.Rows.{Rows}
use Rattle.ps_rows.specs.declared.ResolvedKind.{ResolvedKind}
use Rattle.ps_rows.specs.Rows.{padded_row, padded_rows, resolve_kind}
use Rattle.ps_data.specs.declared.PsLines.{PsLines}
use Rattle.ps_data.specs.declared.Resolved.{Resolved}

-- the row of each kind's last envelope, and a frame's rows
abbrev pub PsIndexState : Type 0
PsIndexState = Kinds Row

abbrev pub PsIndices : Type 0
PsIndices = Kinds Rows

-- ---- configuration

-- a present kind whose mode is 2 modulo 3 has 34 bands
abbrev pub on_thirty_four : Parameter → Bool
on_thirty_four p = p.present && eqb (p.mode % 3) 2

-- Table 8.44: 34 bands exactly if a present IID or ICC mode is 2 modulo 3
abbrev pub layout_of : Config → Layout
layout_of c = cond (on_thirty_four c.iid || on_thirty_four c.icc) Bands34 Bands20

-- an empty line leaves the configuration in force, and so the layout
abbrev pub layout_in : Layout → Header → Layout
layout_in old h = cond h.cued (layout_of h.config) old

-- a line that is read is quiet if it is empty and no configuration has come yet
abbrev pub read_answer : Header → Bool → Answer
read_answer h configured = cond (h.cued || configured) Done Quiet

-- ---- what the lines so far have left

-- no row is kept
abbrev pub no_rows : PsIndexState
no_rows = record { iid = padded_row []; icc = padded_row []; ipd = padded_row []; opd = padded_row [] }

-- no line has come
abbrev pub fresh_lines : PsLines
fresh_lines = record { configured = false; rows = no_rows }

-- a line that is read, and the rows that it leaves
abbrev pub lines_after : PsLines → Header → PsIndexState → PsLines
lines_after s h rows = record { configured = s.configured || h.cued; rows = rows }

-- ---- indices

abbrev pub no_indices : PsIndices
no_indices = record { iid = padded_rows []; icc = padded_rows []; ipd = padded_rows []; opd = padded_rows [] }

-- a kind that is absent in a frame with envelopes is forgotten
abbrev pub forgotten : ResolvedKind
forgotten = record { rows = padded_rows []; kept = padded_row [] }

-- the rows of a kind, from its place in the line
abbrev pub kind_of : Kind → Row → ℕ → Block → List ℕ → ResolvedKind
kind_of kind kept envelopes k bytes = cond k.present (resolve_kind kind kept envelopes k.count (drop k.place bytes)) forgotten

-- the default quantiser for iid_mode 0 to 2, the fine one for 3 to 5 (Table 8.24)
abbrev pub quantiser_of : Config → Kind
quantiser_of c = cond (fine_of c) Fine Coarse

-- the border bytes, in a frame's places, where borders are variable
abbrev pub positions_of : Header → List ℕ → List ℕ
positions_of h bytes =
    cond h.variable (padded limits.envelopes 0 (take (min h.envelopes limits.envelopes) (drop 4 bytes))) (replicate limits.envelopes 0)

-- nothing is resolved
abbrev pub unresolved : PsLines → Header → Resolved
unresolved lines h = record { header = h; lines = lines; indices = no_indices; positions = replicate limits.envelopes 0 }

-- the rows of the four kinds
abbrev pub collected : PsLines → Header → ResolvedKind → ResolvedKind → ResolvedKind → ResolvedKind → List ℕ → Resolved
collected s h iid icc ipd opd positions =
    record {
      header = h;
      lines = lines_after s h (record { iid = iid.kept; icc = icc.kept; ipd = ipd.kept; opd = opd.kept });
      indices = record { iid = iid.rows; icc = icc.rows; ipd = ipd.rows; opd = opd.rows };
      positions = positions;
    }

-- a frame with envelopes
unfoldable pub resolved : PsLines → Header → Places → List ℕ → Resolved
resolved s h at bytes =
    collected s h
    (kind_of (quantiser_of h.config) s.rows.iid h.envelopes at.iid bytes)
    (kind_of Coherence s.rows.icc h.envelopes at.icc bytes)
    (kind_of Phase s.rows.ipd h.envelopes at.ipd bytes)
    (kind_of Phase s.rows.opd h.envelopes at.opd bytes)
    (positions_of h bytes)

-- no envelopes change no index
abbrev pub by_cue : PsLines → Cue → Resolved
by_cue s q = cond (eqb q.header.envelopes 0) (unresolved (lines_after s q.header s.rows) q.header) (resolved s q.header q.places q.bytes)

-- a refused line is refused
abbrev pub by_line : PsLines → Result Cue Answer → Result Resolved Answer
by_line s (Ok q) = Ok (by_cue s q)
by_line s (Err a) = Err a

unfoldable pub resolve_line : PsLines → List ℕ → Result Resolved Answer
resolve_line s text = by_line s (read_line text)

-- what a line leaves: a refused line changes nothing
abbrev pub left_by : PsLines → Result Resolved Answer → Resolved
left_by s (Ok r) = r
left_by s (Err a) = unresolved s no_header
