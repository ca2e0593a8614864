-- `ps_stereo_slots::interpolate` meets its contract: a band that is not there changes nothing, and the first borders are those of the frame.
-- Assumes nothing.
use mathlib.Core.Path.{◌∙◌}
use Prim.Native.Nat.{◌+◌, ◌*◌, ◌≤◌}
use borrow.Author.Tests.{lt-ltb, le-ltb, le-leb, lt-leb}
use borrow.Kind.Array.{e_int, good_length}
use mir.Syntax.{w8}
use native.Mathlib.Omega.{arith}
use lib.ListN.{length}
use Rattle.limits.specs.Limits as limits
use Rattle.planar.specs.Frame.{matrix_at}
use Rattle.ps_stereo_slots.specs.Slots.{fraction_at, border_matrix, runs_after}
use Rattle.ps_stereo_slots.proofs.Borders.{runs_taken}
use Rattle.ps_stereo_slots.proofs.interpolate.Goals as goal
use Rattle.ps_stereo_slots.proofs.interpolate.Goals.{then-band-ge34-via-then-band-ge34, then-band-ge34-via-else-band-ge34+then-rows-band}

pub returns-then-band-ge34 : goal.returns-then-band-ge34
unfolding runs_after
returns-then-band-ge34 c =
    let s = c.args in
    elim c.then-band-ge34.branch [
      | then-band-ge34-via-then-band-ge34 w ↦ rw (le-ltb s.band 34 w.if-band-ge34.true)
      | then-band-ge34-via-else-band-ge34+then-rows-band w ↦
          rw (lt-ltb s.band 34 w.if-band-ge34.false, lt-leb (limits.course * s.band + limits.course) (length s.rows.now) w.if-rows-band.true)
    ]

pub returns : goal.returns
unfolding runs_after
returns c =
    let s = c.args in
    let few : c.min.result ≤ length s.borders = omega (arith, c.min.ensures, good_length (e_int w8) limits.envelopes s.borders _ c.well_formed.1.1.0) in
    rw (lt-ltb s.band 34 c.if-band-ge34.false, le-leb (limits.course * s.band + limits.course) (length s.rows.now) c.if-rows-band.false, ← c.min.ensures, ← c.min-2.ensures)
    (c.envelopes.ensures
    ∙ runs_taken s.borders c.min.result (fraction_at s.fractions.now) (border_matrix s.rows.now s.band) few c.min-2.result (matrix_at s.out.now))
