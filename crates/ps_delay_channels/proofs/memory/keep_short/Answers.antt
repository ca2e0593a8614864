-- `ps_delay_channels::memory::keep_short` meets its contract: a frame of no slots keeps the memory, and any other copies its last slot. Assumes nothing.
use mathlib.Core.Path.{sym, ◌∙◌}
use Prim.Native.Nat.{◌+◌, ◌*◌, ◌-◌}
use native.Mathlib.Omega.{arith}
use Rattle.ps_delay_channels.proofs.Bands.{width, lent_long}
use Rattle.ps_delay_channels.proofs.Keeping.{short_stays, short_copied}
use Rattle.ps_delay_channels.proofs.memory.keep_short.Goals as goal

pub returns-then-slots-eq0 : goal.returns-then-slots-eq0
returns-then-slots-eq0 c = short_stays _ _ _ c.if-slots-eq0.true

pub copy-requires : goal.copy-requires
copy-requires c =
    let from = 128 * (c.args.slots - 1) + 70 in
    lent_long from 58 (from + 58 - from) c.args.input.now (width from 58) (omega (arith, c.requires.2, c.if-slots-eq0.false)) ∙ sym c.requires.0

pub returns : goal.returns
returns c =
    let from = 128 * (c.args.slots - 1) + 70 in
    short_copied _ _ _ (from + 58 - from) _ (width from 58) c.if-slots-eq0.false c.copy.ensures
