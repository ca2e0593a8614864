-- `ps_memory::lines::unpack` meets its contract: after i turns the first 2 i places hold the indices of the first i floats. Assumes nothing.
use mathlib.Core.Path.{ap, ◌∙◌}
use Prim.Native.Nat.{◌*◌}
use native.Mathlib.Omega.{arith}
use lib.ListN.{length}
use Rattle.lists.proofs.Rows.{rowed_none, rowed_more, rowed_all}
use Rattle.ps_memory.specs.Packed.{unpacked}
use Rattle.ps_memory.proofs.lines.unpack.Goals as goal

pub loop-i-init : goal.loop-i-init
loop-i-init c = rowed_none _ c.args.to.now

pub loop-i-preserved : goal.loop-i-preserved
loop-i-preserved c =
    let pair = c.copy_from_slice.ensures.after ∙ c.indices.ensures in
    rowed_more c.loop-i.invariant 2 c.copy_from_slice.new.self pair (ap length pair) (omega arith)

pub returns : goal.returns
unfolding unpacked
returns c =
    rowed_all c.loop-i.invariant (length c.args.from.now) (omega arith) (omega (arith, c.requires))
