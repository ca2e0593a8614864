-- `ps_allpass_channels::rows::pass_four` meets its contract: the four bands come one after the other. Assumes nothing.
use mathlib.Core.Path.{◌≡◌, ◌∙◌, ap}
use Prim.Native.Nat.{ℕ, ◌+◌, ◌-◌}
use native.Mathlib.Omega.{arith}
use Rattle.complex.specs.declared.Complex.{Complex}
use Rattle.planar.specs.Cells.{cell}
use Rattle.ps_allpass_channels.proofs.Leaving.{rowed_none, rowed_next}
use Rattle.ps_allpass_channels.proofs.rows.pass_four.Goals as goal

pub overflow_add-q-3 : goal.overflow_add-q-3
overflow_add-q-3 c =
    omega arith

pub lay-requires-4 : goal.lay-requires-4
lay-requires-4 c =
    omega arith

pub returns : goal.returns
returns c =
    let a = c.args in
    let q = a.q in
    let at = a.at in
    let xs = a.desks.now in
    let old = a.row.now in
    let r1 = c.lay.new.row in
    let r2 = c.lay-2.new.row in
    let r3 = c.lay-3.new.row in
    let r4 = c.lay-4.new.row in
    let value : ℕ → Complex = λ p. cell 4 xs (at + (p - q)) in
    let e0 : at ≡ at + (q - q) = omega arith in
    let e1 : at + 1 ≡ at + (q + 1 - q) = omega arith in
    let e2 : at + 2 ≡ at + (q + 2 - q) = omega arith in
    let e3 : at + 3 ≡ at + (q + 3 - q) = omega arith in
    rowed_next value q (q + 3) (q + 4) old r3 r4 c.lane-d.result (omega arith)
    (rowed_next value q (q + 2) (q + 3) old r2 r3 c.lane-c.result (omega arith)
    (rowed_next value q (q + 1) (q + 2) old r1 r2 c.lane-b.result (omega arith)
    (rowed_next value q q (q + 1) old old r1 c.lane-a.result (omega arith)
    (rowed_none value q old) c.lay.ensures (c.lane-a.ensures ∙ ap (cell 4 xs) e0) (omega arith))
    c.lay-2.ensures (c.lane-b.ensures ∙ ap (cell 4 xs) e1) (omega arith))
    c.lay-3.ensures (c.lane-c.ensures ∙ ap (cell 4 xs) e2) (omega arith))
    c.lay-4.ensures (c.lane-d.ensures ∙ ap (cell 4 xs) e3) (omega arith)
