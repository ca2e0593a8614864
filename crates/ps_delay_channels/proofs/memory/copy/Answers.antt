-- `ps_delay_channels::memory::copy` meets its contract: after i turns the first i numbers are those of `from`. Assumes nothing.
use mathlib.Core.Path.{◌≡◌, refl, ◌∙◌}
use Prim.Native.Nat.{◌≤◌, ◌-◌}
use native.Mathlib.Omega.{arith}
use lib.Ieee.{nan}
use lib.ListN.{length, get_or, length-set}
use Rattle.lists.proofs.Maps.{Tabulated, tabulated_none, tabulated_more, tabulated_all, copied}
use Rattle.ps_delay_channels.proofs.memory.copy.Goals as goal

pub loop-i-init : goal.loop-i-init
loop-i-init c = (refl, omega arith, tabulated_none _ _)

pub loop-i-preserved : goal.loop-i-preserved
loop-i-preserved c =
    (length-set c.loop-i.to c.loop-i.i _ ∙ c.loop-i.invariant.0, omega arith, tabulated_more c.loop-i.invariant.2 _ refl (omega arith))

pub shape_of-to : goal.shape_of-to
shape_of-to c = c.loop-i.invariant.0

pub returns : goal.returns
returns c =
    let from = c.args.from.now in
    tabulated_all c.loop-i.invariant.2 (length from) (omega arith) (omega arith) ∙ copied from nan
