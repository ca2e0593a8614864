-- `ps_stereo_borders::coefficients` meets its contract: lists without room stay, without envelopes only the kept coefficients are put in front, and the
-- envelopes go on from them. Assumes nothing.
use mathlib.Core.Path.{sym, ap, ◌∙◌}
use Prim.Native.Nat.{ℕ, min, ◌*◌, ◌≤◌}
use native.Mathlib.Omega.{arith}
use lib.ListN.{length}
use Rattle.layout.specs.Numbers.{bands_of}
use Rattle.layout.proofs.Bounds.{bounds}
use Rattle.limits.specs.Limits as limits
use Rattle.ps_stereo_borders.proofs.Fits as fits
use Rattle.ps_stereo_borders.proofs.coefficients.Goals as goal
use Rattle.ps_stereo_borders.proofs.coefficients.Goals.{then-matrices-bands-via-then-matrices-bands, then-matrices-bands-via-else-matrices-bands+then-phases-bands, then-matrices-bands-via-else-matrices-bands+else-phases-bands+then-rows-bands}

pub overflow_mul-bands : goal.overflow_mul-bands
overflow_mul-bands c = omega (arith, c.bands-bands.ensures, (bounds c.args.layout).bands)

pub returns-then-matrices-bands : goal.returns-then-matrices-bands
returns-then-matrices-bands c =
    let a = c.args in
    let bands = c.bands-bands.ensures in
    let after : fits.After a.layout a.header a.indices a.directions.now a.matrices.now a.phases.now a.rows.now a.matrices.now a.phases.now a.rows.now =
    elim c.then-matrices-bands.branch [
      | then-matrices-bands-via-then-matrices-bands w ↦ fits.no_matrices _ _ _ _ _ _ _ (omega (arith, bands, w.if-matrices-bands.true))
      | then-matrices-bands-via-else-matrices-bands+then-phases-bands w ↦
          fits.no_phases _ _ _ _ _ _ _ (omega (arith, bands, w.if-matrices-bands.false)) (omega (arith, bands, w.if-phases-bands.true))
      | then-matrices-bands-via-else-matrices-bands+else-phases-bands+then-rows-bands w ↦
          fits.no_rows _ _ _ _ _ _ _ (omega (arith, bands, w.if-matrices-bands.false)) (omega (arith, bands, w.if-phases-bands.false)) (omega (arith, bands, w.if-rows-bands.true))
    ] in
    record { matrices = after.0; phases = after.1.0; rows = after.1.1 }

pub returns-then-count-eq0 : goal.returns-then-count-eq0
returns-then-count-eq0 c =
    let room_matrices : let a = c.args in 8 * bands_of a.layout ≤ length a.matrices.now = omega (arith, c.bands-bands.ensures, c.if-matrices-bands.false) in
    let room_phases : let a = c.args in 4 * bands_of a.layout ≤ length a.phases.now = omega (arith, c.bands-bands.ensures, c.if-phases-bands.false) in
    let room_rows : let a = c.args in limits.course * bands_of a.layout ≤ length a.rows.now = omega (arith, c.bands-bands.ensures, c.if-rows-bands.false) in
    let a = c.args in
    let after = fits.held a.layout a.header a.indices a.directions.now a.matrices.now a.phases.now a.rows.now room_matrices room_phases room_rows
    c.bands-bands.ensures c.copy.ensures (sym c.if-count-eq0.true ∙ c.min-count.ensures ∙ ap (λ (n : ℕ). min n limits.envelopes) c.from.ensures) in
    record { matrices = after.0; phases = after.1.0; rows = after.1.1 }

pub returns : goal.returns
returns c =
    let room_matrices : let a = c.args in 8 * bands_of a.layout ≤ length a.matrices.now = omega (arith, c.bands-bands.ensures, c.if-matrices-bands.false) in
    let room_phases : let a = c.args in 4 * bands_of a.layout ≤ length a.phases.now = omega (arith, c.bands-bands.ensures, c.if-phases-bands.false) in
    let room_rows : let a = c.args in limits.course * bands_of a.layout ≤ length a.rows.now = omega (arith, c.bands-bands.ensures, c.if-rows-bands.false) in
    let a = c.args in
    let after = fits.advanced a.layout a.header a.indices a.directions.now a.matrices.now a.phases.now a.rows.now room_matrices room_phases room_rows
    c.bands-bands.ensures c.copy.ensures c.envelopes.ensures (c.min-count.ensures ∙ ap (λ (n : ℕ). min n limits.envelopes) c.from.ensures) c.copy-2.ensures in
    record { matrices = after.0; phases = after.1.0; rows = after.1.1 }
