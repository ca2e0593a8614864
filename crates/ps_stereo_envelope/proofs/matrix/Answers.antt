-- `ps_stereo_envelope::matrix` meets its contract, without phase and with it. Assumes nothing.
use mathlib.Core.Path.{◌≡◌, ◌∙◌}
use borrow.Author.Rules.{rules}
use borrow.Author.Tests.{not-true, not-false}
use mir.Syntax.{w8}
use Rattle.integers.proofs.Bits.{back}
use Rattle.lists.proofs.Parts.{part_length}
use Rattle.planar.specs.Frame.{ipd_of, opd_of}
use Rattle.standard.specs.Mixing.{direction_of}
use Rattle.ps_stereo_envelope.specs.Envelope.{kept_of}
use Rattle.ps_stereo_envelope.specs.Loops.{cue_in}
use Rattle.ps_stereo_envelope.proofs.Matrices.{without_phase, with_phase, in_half}
use Rattle.ps_stereo_envelope.proofs.matrix.Goals as goal

pub returns-then-not-modes : goal.returns-then-not-modes
returns-then-not-modes c =
    let a = c.args in
    c.base-h.ensures
    ∙ without_phase a.tables.coefficients.now a.tables.directions.now a.modes (kept_of a.phases.now) (cue_in a.indices) (not-true _ c.if-not-modes.true)

pub direction-opd-requires : goal.direction-opd-requires
direction-opd-requires c = part_length 2 2 c.args.phases.now (search rules)

pub direction-ipd-requires : goal.direction-ipd-requires
direction-ipd-requires c = part_length 0 2 c.args.phases.now (search rules)

pub returns : goal.returns
returns c =
    let a = c.args in
    let opd_direction : c.direction-opd.result ≡ direction_of a.tables.directions.now (opd_of a.phases.now 0) a.indices.opd =
    c.direction-opd.ensures ∙ rw (back w8 a.indices.opd (search rules)) (in_half 2 a.tables.directions.now a.phases.now a.indices.opd) in
    let ipd_direction : c.direction-ipd.result ≡ direction_of a.tables.directions.now (ipd_of a.phases.now 0) a.indices.ipd =
    c.direction-ipd.ensures ∙ rw (back w8 a.indices.ipd (search rules)) (in_half 0 a.tables.directions.now a.phases.now a.indices.ipd) in
    c.rotated.ensures
    ∙ with_phase a.tables.coefficients.now a.tables.directions.now a.modes (kept_of a.phases.now) (cue_in a.indices) (not-false _ c.if-not-modes.false)
    c.base-h.result c.direction-opd.result c.direction-ipd.result
    c.base-h.ensures opd_direction ipd_direction
