-- What each line leaves: a refused line everything, a frame without envelopes all rows. Assumes nothing.
use mathlib.Core.Path.{◌≡◌, refl, ap}
use mathlib.Core.Logic.{◌≢◌}
use mathlib.Core.Bool.{Bool, true, false, cond}
use mathlib.Core.List.{List}
use Prim.Native.Nat.{ℕ}
use lib.Dec.{eqb}
use borrow.Author.Tests.{eq-eqb, ne_eqb}
use Rattle.std.specs.Prelude.{Result, Ok, Err}
use Rattle.answer.specs.declared.Answer.{Answer}
use Rattle.cue.specs.declared.Cue.{Cue}
use Rattle.cue.specs.declared.Header.{Header}
use Rattle.cue.specs.Line.{read_line}
use Rattle.ps_data.specs.declared.PsLines.{PsLines}
use Rattle.ps_data.specs.declared.Resolved.{Resolved}
use Rattle.ps_data.specs.Indices.{lines_after, unresolved, resolved, by_line, resolve_line, left_by}

module _ (s : PsLines) (text : List ℕ) where
  -- ---- the three cases of a line
  pub refused_line : (a : Answer) → read_line text ≡ Err a → resolve_line s text ≡ Err a
  unfolding resolve_line
  refused_line a e = rw e

  pub held_line : (q : Cue) → read_line text ≡ Ok q → q.header.envelopes ≡ 0 → resolve_line s text ≡ Ok (unresolved (lines_after s q.header s.rows) q.header)
  unfolding resolve_line
  held_line q e n = rw (e, eq-eqb q.header.envelopes 0 n)

  pub resolved_line : (q : Cue) → read_line text ≡ Ok q → q.header.envelopes ≢ 0 → resolve_line s text ≡ Ok (resolved s q.header q.places q.bytes)
  unfolding resolve_line
  resolved_line q e n = rw (e, ne_eqb q.header.envelopes 0 n)

  -- ---- what they leave
  -- a refused line changes nothing
  pub refused_kept : (a : Answer) → read_line text ≡ Err a → (left_by s (resolve_line s text)).lines ≡ s
  refused_kept a e = ap (λ (r : Result Resolved Answer). (left_by s r).lines) (refused_line a e)

  -- a frame without envelopes changes no row
  pub held_kept : (q : Cue) → read_line text ≡ Ok q → q.header.envelopes ≡ 0 → (left_by s (resolve_line s text)).lines.rows ≡ s.rows
  held_kept q e n = ap (λ (r : Result Resolved Answer). (left_by s r).lines.rows) (held_line q e n)

  -- ---- what is resolved says of the line what was read
  abbrev heard : Result Cue Answer → Result Header Answer
  heard (Ok q) = Ok q.header
  heard (Err a) = Err a

  abbrev said : Result Resolved Answer → Result Header Answer
  said (Ok r) = Ok r.header
  said (Err a) = Err a

  pub line_kept : said (resolve_line s text) ≡ heard (read_line text)
  unfolding resolve_line resolved
  line_kept = by (read_line text)
    where
      either : (held : Bool) (q : Cue)
          → (cond {A = Resolved} held (unresolved (lines_after s q.header s.rows) q.header) (resolved s q.header q.places q.bytes)).header ≡ q.header
      either true q = refl
      either false q = refl

      by : (read : Result Cue Answer) → said (by_line s read) ≡ heard read
      by (Ok q) = ap (λ (h : Header). Ok h) (either (eqb q.header.envelopes 0) q)
      by (Err a) = refl

  -- and where it refuses the line, so did reading
  pub refusal_kept : (a : Answer) → resolve_line s text ≡ Err a → read_line text ≡ Err a
  unfolding resolve_line
  refusal_kept a e = by (read_line text) e
    where
      by : (read : Result Cue Answer) → by_line s read ≡ Err a → read ≡ Err a
      by (Ok q) e = cc
      by (Err b) e = cc
