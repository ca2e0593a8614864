-- `ps_stereo_slots::fractions` meets its contract: each turn writes one place, of the envelope and the slot that its number says. Assumes nothing.
use mathlib.Core.Path.{◌≡◌, ◌∙◌}
use Prim.Native.Nat.{◌*◌}
use native.Mathlib.Omega.{arith}
use lib.ListN.{length}
use Rattle.limits.specs.Limits as limits
use Rattle.lists.proofs.Maps.{tabulated_none, tabulated_more}
use Rattle.ps_stereo_slots.specs.Slots.{fractions_after}
use Rattle.ps_stereo_slots.proofs.Borders.{fractions_taken, partly}
use Rattle.ps_stereo_slots.proofs.fractions.Goals as goal

pub loop-i-init : goal.loop-i-init
loop-i-init c = tabulated_none _ _

pub fraction_of-requires : goal.fraction_of-requires
fraction_of-requires c = (omega (arith, c.min-envelopes.ensures), omega arith)

pub loop-i-preserved : goal.loop-i-preserved
loop-i-preserved c = tabulated_more c.loop-i.invariant c.fraction_of.result c.fraction_of.ensures (omega (arith, c.min-envelopes.ensures))

pub returns : goal.returns
unfolding fractions_after
returns c =
    let s = c.args in
    let used = c.min-envelopes.result in
    let all : c.loop-i.i ≡ 32 * used = omega arith in
    let long : length s.out.now ≡ limits.fractions = omega arith in
    rw (← c.min-envelopes.ensures)
    (rw long at (partly (rw all at c.loop-i.invariant) (omega (arith, c.min-envelopes.ensures))) ∙ fractions_taken s.borders used s.out.now)
