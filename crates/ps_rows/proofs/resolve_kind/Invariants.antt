use mathlib.Core.Path.{◌≡◌}
use mathlib.Core.List.{List, [], map}
use Prim.Native.Nat.{ℕ, ◌+◌, ◌-◌, ◌*◌}
use lib.IntN.{ℤ}
use lib.ListN.{take, drop, replicate}
use Rattle.limits.specs.Limits as limits
use Rattle.lists.proofs.Fills.{Filled}
use Rattle.ps_rows.specs.declared.Kind.{Kind}
use Rattle.ps_rows.specs.declared.Row.{Row}
use Rattle.ps_rows.specs.Rows.{rows_of, padded_row, last_of}
use Rattle.ps_rows.proofs.resolve_kind.Given as goal

-- `start` is what the first envelope starts from
pub record Inv (kind : Kind) (count limit : ℕ) (bytes : List ℕ) (start : List ℤ) (kept : Row) (row : List Row) (old : List ℤ) (last : Row) (e : ℕ) : Type 0 where
  pub filled : Filled (map padded_row (rows_of kind count (take count old) (drop (e * (count + 1)) bytes) (limit - e))) (map padded_row (rows_of kind count (take count start) bytes limit)) (replicate limits.envelopes (padded_row [])) row e
  pub lasts : last_of last (rows_of kind count (take count old) (drop (e * (count + 1)) bytes) (limit - e)) ≡ last_of kept (rows_of kind count (take count start) bytes limit)

abbrev pub invariant-loop-e : goal.invariant-loop-e
invariant-loop-e l = Inv l.kind l.parameters l.limit l.bytes l.initial.old l.initial.last l.row l.old l.last l.e
