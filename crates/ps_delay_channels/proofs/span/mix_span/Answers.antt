-- `ps_delay_channels::span::mix_span` meets its contract: the coefficients are made, and the bands are weighed by them. Assumes nothing.
use mathlib.Core.Path.{◌≡◌}
use Prim.Native.Nat.{◌*◌, min}
use native.Mathlib.Nat.{add-sub_cancel_left}
use native.Mathlib.Omega.{arith}
use Rattle.lists.proofs.Parts.{part_length}
use Rattle.ps_delay_channels.proofs.Spans.{mixed_sides}
use Rattle.ps_delay_channels.proofs.span.mix_span.Goals as goal

pub bands-requires : goal.bands-requires
bands-requires c =
    let s = c.args in
    let band = s.span.band in
    record { gains_len = rw (add-sub_cancel_left (32 * band) 32) (part_length (32 * band) 32 s.lent.gains.now c.requires.band_in_bounds.0); frame = c.requires.frame }

pub shape_of-left : goal.shape_of-left
shape_of-left c = c.bands.ensures.left.long

pub shape_of-right : goal.shape_of-right
shape_of-right c = c.bands.ensures.right.long

pub returns : goal.returns
returns c =
    let s = c.args in
    let slots = s.common.timing.slots in
    let band = s.span.band in
    let few = c.requires.frame.0.few in
    let whole : min slots 32 ≡ slots = omega (arith, few) in
    let is = rw whole at c.interpolate.ensures in
    let lent = add-sub_cancel_left (32 * band) 32 in
    let p = mixed_sides s.common.timing s.lent.input.now s.lent.gains.now s.lent.rows.now s.common.fractions.now c.requires.fractions.0 band few c.requires.fractions.1 c.requires.band_in_bounds.1 s.runs.now
    s.span.delay s.span.before.now (rw (is, lent) at c.bands.ensures.left) (rw (is, lent) at c.bands.ensures.right) in
    record { left = p.0; right = p.1 }
