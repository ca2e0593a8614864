-- `ps_hybrid_analysis::band::past` meets its contract: the history's halves are the fronts of the band's. Assumes nothing.
use mathlib.Core.Path.{ap, ◌∙◌}
use mathlib.Core.List.{List}
use Prim.Native.Nat.{ℕ}
use native.Mathlib.Omega.{arith}
use lib.Ieee.{Float, nan}
use lib.ListN.{length, get_or, length-take, length-drop}
use lib.Seq.{get_or-take}
use Rattle.lists.proofs.Parts.{part_at}
use Rattle.planar.specs.Cells.{cell}
use Rattle.ps_hybrid_analysis.proofs.Pasted.{pasted}
use Rattle.ps_hybrid_analysis.proofs.band.past.Goals as goal

pub returns : goal.returns
returns c =
    let h = c.args.history.now in
    let re = c.copy_from_slice.ensures.after in
    let im = c.copy_from_slice-2.ensures.after in
    pasted 44 6 (cell 6 h) c.args.band.now c.copy_from_slice.new.self c.copy_from_slice-2.new.self (omega arith) (omega arith)
    (ap length re ∙ simp (length-take, length-drop) (omega arith)) (ap length im ∙ simp (length-take, length-drop) (omega arith))
    (λ i u. ap (λ (xs : List Float). get_or xs i nan) re ∙ get_or-take 6 h i nan u)
    (λ i u. ap (λ (xs : List Float). get_or xs i nan) im ∙ part_at 6 _ h i nan (omega arith) ∙ ap (λ (m : ℕ). get_or h m nan) (omega arith))
