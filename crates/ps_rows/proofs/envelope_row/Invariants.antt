use lib.IntN.{pos}
use lib.ListN.{take, drop, replicate}
use Rattle.lists.proofs.Fills.{Filled}
use Rattle.ps_rows.specs.Rows.{deltas_of}
use Rattle.ps_rows.proofs.Turns.{begun}
use Rattle.ps_rows.proofs.envelope_row.Given as goal

-- the places that are filled, and what is left of the row, make the whole row
abbrev pub invariant-loop-b : goal.invariant-loop-b
invariant-loop-b l =
    let deltas = deltas_of l.count (drop l.place l.bytes) in
    Filled (begun l.over_time l.kind l.previous (drop l.b (take l.count l.old)) (drop l.b deltas)) (begun l.over_time l.kind (pos 0) (take l.count l.old) deltas) (replicate 34 (pos 0)) l.at l.b
