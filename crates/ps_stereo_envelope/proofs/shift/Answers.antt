-- `ps_stereo_envelope::shift` meets its contract: without phase the four indices stay, and with it all four are written. Assumes nothing.
use mathlib.Core.Path.{◌∙◌}
use borrow.Author.Rules.{rules}
use lib.IntN.{pos}
use lib.ListN.{get_or}
use mir.Syntax.{w8}
use Rattle.integers.proofs.Bits.{back}
use Rattle.standard.specs.Mixing.{phases_after}
use Rattle.ps_stereo_envelope.proofs.Matrices.{four_kept}
use Rattle.ps_stereo_envelope.proofs.shift.Goals as goal

pub returns-then-phase : goal.returns-then-phase
unfolding phases_after
returns-then-phase c =
    let a = c.args in
    c.copy_from_slice.ensures.after
    ∙ rw (
      back w8 (get_or a.phases.now 1 (pos 0)) (search rules),
      back w8 (get_or a.phases.now 3 (pos 0)) (search rules),
      back w8 a.indices.ipd (search rules),
      back w8 a.indices.opd (search rules),
      c.if-phase.true,
    )

pub returns-else-phase : goal.returns-else-phase
unfolding phases_after
returns-else-phase c = four_kept c.args.phases.now c.requires ∙ rw (c.if-phase.false)
