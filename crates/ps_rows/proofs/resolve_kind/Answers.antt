-- `ps_rows::resolve_kind` meets its contract: before each turn the places that are filled, and the rows of the envelopes that are left from the row before them, make the whole, and so does the last row. Assumes nothing.
use native.Mathlib.Omega.{arith}
use native.Mathlib.Nat.{suc-mul}
use mathlib.Core.Path.{◌≡◌, sym, ◌∙◌}
use mathlib.Core.List.{List}
use Prim.Native.Nat.{ℕ, ◌+◌, ◌*◌, ◌-◌, min}
use lib.IntN.{ℤ}
use lib.ListN.{take}
use Rattle.limits.specs.Limits as limits
use Rattle.lists.proofs.Fills.{filled_more}
use Rattle.ps_rows.specs.declared.Kind.{Kind}
use Rattle.ps_rows.specs.declared.Row.{Row}
use Rattle.ps_rows.specs.declared.Rows.{Rows}
use Rattle.ps_rows.specs.declared.ResolvedKind.{ResolvedKind}
use Rattle.ps_rows.specs.Rows.{rows_of, padded_rows, start_of, last_of, resolved_from, resolve_kind}
use Rattle.ps_rows.proofs.Places.{held_rows}
use Rattle.ps_rows.proofs.Ranges.{rows_length}
use Rattle.ps_rows.proofs.Turns.{rows_turn}
use Rattle.ps_rows.proofs.resolve_kind.Goals as goal

-- the rows and the last of them, made into the answer
made : (kept last : Row) (rows : List (List ℤ)) (row : List Row) (limit : ℕ) → ◌≡◌ {A = Rows} (record { row = row; used = limit }) (padded_rows rows) → last ≡ last_of kept rows → ◌≡◌ {A = ResolvedKind} (record { rows = record { row = row; used = limit }; kept = last }) (resolved_from kept rows)
made kept last rows row limit p q = rw (p, q)

-- the counts that were limited, and what the first envelope starts from, are the definition's
defined : (kind : Kind) (kept : Row) (envelopes count : ℕ) (bytes : List ℕ) (limit parameters : ℕ) (start : List ℤ) → parameters ≡ min count 34 → limit ≡ min envelopes limits.envelopes → start ≡ start_of kept parameters → resolved_from kept (rows_of kind parameters start bytes limit) ≡ resolve_kind kind kept envelopes count bytes
unfolding resolve_kind
defined kind kept envelopes count bytes limit parameters start p l s = rw (s, p, l)

pub loop-e-preserved : goal.loop-e-preserved
loop-e-preserved c =
    let given = c.args in
    let count = c.min-parameters in
    let limit = c.min-limit in
    let next = c.envelope_row-last in
    let place : ℕ = c.loop-e.e * (count.result + 1) in
    let on : (c.loop-e.e + 1) * (count.result + 1) ≡ place + (count.result + 1) = omega (arith, suc-mul c.loop-e.e (count.result + 1)) in
    let turned =
    rows_turn given.kind count.result (take count.result c.loop-e.old) given.bytes.now place limit.result c.loop-e.e
    c.loop-e-test.true (omega (arith, count.ensures)) next.result next.ensures in
    record {
      filled = rw on (filled_more c.loop-e.invariant.filled next.result turned.0 (omega (arith, limit.ensures)));
      lasts = rw on (sym (turned.1 c.loop-e.last) ∙ c.loop-e.invariant.lasts);
    }

pub returns : goal.returns
unfolding rows_of
returns c =
    let given = c.args in
    let count = c.min-parameters in
    let limit = c.min-limit in
    let start = c.start-old in
    let none_left : limit.result - c.loop-e.e ≡ 0 = omega arith in
    let rows = rows_of given.kind count.result (take count.result start.result) given.bytes.now limit.result in
    made given.kept c.loop-e.last rows c.loop-e.row limit.result
    (held_rows rows limit.result (rw none_left at c.loop-e.invariant.filled) (rows_length given.kind count.result (take count.result start.result) given.bytes.now limit.result) (omega (arith, limit.ensures)))
    (rw none_left at c.loop-e.invariant.lasts)
    ∙ defined given.kind given.kept given.envelopes given.count given.bytes.now limit.result count.result _ count.ensures limit.ensures start.ensures
