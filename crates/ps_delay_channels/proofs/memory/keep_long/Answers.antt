-- `ps_delay_channels::memory::keep_long` meets its contract: a turn writes one slot's row over the one of 14 slots before. Assumes nothing.
use mathlib.Core.Path.{sym, ◌∙◌}
use Prim.Native.Nat.{◌+◌, ◌*◌, ◌-◌, ◌%◌}
use native.Mathlib.Omega.{arith}
use Rattle.ps_delay_channels.proofs.Bands.{width, lent_long}
use Rattle.ps_delay_channels.proofs.Keeping.{keeping_none, keeping_more, keeping_all}
use Rattle.ps_delay_channels.proofs.memory.keep_long.Goals as goal

pub loop-n-init : goal.loop-n-init
loop-n-init c =
    keeping_none c.args.position c.args.slots c.args.input.now c.args.long.now _ (omega (arith, c.saturating_sub-n.ensures)) c.requires.0

pub copy-requires : goal.copy-requires
copy-requires c =
    let n = c.loop-n.n in
    let from = 128 * n + 46 in
    let at = 24 * ((c.args.position + n) % 14) in
    lent_long from 24 (from + 24 - from) c.args.input.now (width from 24) (omega (arith, c.requires.3, c.loop-n-test.true))
    ∙ sym (lent_long at 24 (at + 24 - at) c.loop-n.long (width at 24) (omega (arith, c.loop-n.invariant.whole)))

pub loop-n-preserved : goal.loop-n-preserved
loop-n-preserved c =
    let n = c.loop-n.n in
    let from = 128 * n + 46 in
    let at = 24 * ((c.args.position + n) % 14) in
    keeping_more c.loop-n.invariant (from + 24 - from) (at + 24 - at) c.copy.new.to (width from 24) (width at 24) c.loop-n-test.true c.copy.ensures
    (c.copy.auto.to ∙ lent_long at 24 (at + 24 - at) c.loop-n.long (width at 24) (omega (arith, c.loop-n.invariant.whole)))

pub shape_of-long : goal.shape_of-long
shape_of-long c = c.loop-n.invariant.whole ∙ sym c.requires.0

pub returns : goal.returns
returns c = keeping_all c.loop-n.invariant (omega (arith, c.loop-n.invariant.high, c.loop-n-test.false))
