-- `ps_stereo_envelope::envelope` meets its contract: what is too late or has no room changes nothing. Assumes nothing.
use mathlib.Core.Path.{◌∙◌}
use Prim.Native.Nat.{◌*◌, ◌≤◌}
use native.Mathlib.Omega.{arith}
use lib.ListN.{length}
use Rattle.layout.specs.Numbers.{bands_of}
use Rattle.limits.specs.Limits as limits
use Rattle.ps_stereo_envelope.proofs.Fits as fits
use Rattle.ps_stereo_envelope.proofs.envelope.Goals as goal
use Rattle.ps_stereo_envelope.proofs.envelope.Goals.{then-e-ge-ENVELOPES-via-then-e-ge-ENVELOPES, then-e-ge-ENVELOPES-via-else-e-ge-ENVELOPES+then-phases-bands, then-e-ge-ENVELOPES-via-else-e-ge-ENVELOPES+else-phases-bands+then-rows-bands}

pub returns-then-e-ge-ENVELOPES : goal.returns-then-e-ge-ENVELOPES
returns-then-e-ge-ENVELOPES c =
    let a = c.args in
    let bands = c.bands-bands.ensures in
    let kept : fits.Kept a.coefficients.now a.directions.now a.layout a.modes a.cues a.phases.now a.e a.rows.now =
    elim c.then-e-ge-ENVELOPES.branch [
      | then-e-ge-ENVELOPES-via-then-e-ge-ENVELOPES w ↦ fits.late _ _ _ _ _ _ _ _ w.if-e-ge-ENVELOPES.true
      | then-e-ge-ENVELOPES-via-else-e-ge-ENVELOPES+then-phases-bands w ↦
          fits.no_phases _ _ _ _ _ _ _ _ w.if-e-ge-ENVELOPES.false (omega (arith, bands, w.if-phases-bands.true))
      | then-e-ge-ENVELOPES-via-else-e-ge-ENVELOPES+else-phases-bands+then-rows-bands w ↦
          fits.no_rows _ _ _ _ _ _ _ _ w.if-e-ge-ENVELOPES.false (omega (arith, bands, w.if-phases-bands.false)) (omega (arith, bands, w.if-rows-bands.true))
    ] in
    record { phases = kept.0; rows = kept.1 }

pub returns : goal.returns
returns c =
    let long : let a = c.args in 4 * bands_of a.layout ≤ length a.phases.now = omega (arith, c.bands-bands.ensures, c.if-phases-bands.false) in
    let room : let a = c.args in limits.course * bands_of a.layout ≤ length a.rows.now = omega (arith, c.bands-bands.ensures, c.if-rows-bands.false) in
    let a = c.args in record {
      phases = c.each.ensures.phases ∙ fits.kept_fit a.coefficients.now a.directions.now a.layout a.modes a.cues a.phases.now a.e a.rows.now c.if-e-ge-ENVELOPES.false long room;
      rows = c.each.ensures.rows ∙ fits.rows_fit a.coefficients.now a.directions.now a.layout a.modes a.cues a.phases.now a.e a.rows.now c.if-e-ge-ENVELOPES.false long room;
    }
