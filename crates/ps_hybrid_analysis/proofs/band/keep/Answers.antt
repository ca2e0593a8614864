-- `ps_hybrid_analysis::band::keep` meets its contract: the halves of the history are parts of the band's. Assumes nothing.
use mathlib.Core.Path.{ap, ◌∙◌}
use mathlib.Core.List.{List}
use Prim.Native.Nat.{ℕ, ◌+◌}
use native.Mathlib.Omega.{arith}
use lib.Ieee.{Float, nan}
use lib.ListN.{length, get_or, length-take, length-drop}
use Rattle.lists.proofs.Parts.{part_at}
use Rattle.planar.specs.Cells.{cell}
use Rattle.ps_hybrid_analysis.proofs.Pasted.{pasted_all}
use Rattle.ps_hybrid_analysis.proofs.band.keep.Goals as goal

pub returns : goal.returns
returns c =
    let band = c.args.band.now in
    let slots = c.args.slots.count in
    let re = c.copy_from_slice.ensures.after in
    let im = c.copy_from_slice-2.ensures.after in
    pasted_all 6 (λ j. cell 44 band (slots + j)) c.args.history.now c.copy_from_slice.new.self c.copy_from_slice-2.new.self (omega (arith, c.requires))
    (ap length re ∙ simp (length-take, length-drop) (omega arith)) (ap length im ∙ simp (length-take, length-drop) (omega arith))
    (λ i u. ap (λ (xs : List Float). get_or xs i nan) re ∙ part_at slots _ band i nan (omega arith))
    (λ i u. ap (λ (xs : List Float). get_or xs i nan) im ∙ part_at (slots + 44) _ band i nan (omega arith) ∙ ap (λ (m : ℕ). get_or band m nan) (omega arith))
