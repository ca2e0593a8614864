-- `ps_memory::lines::pack` meets its contract: after i turns the first i floats hold the first 2 i indices. Assumes nothing.
use mathlib.Core.Path.{ap₂, ◌∙◌}
use Prim.Native.Nat.{◌+◌, ◌*◌}
use borrow.Author.Rules.{rules}
use native.Mathlib.Omega.{arith}
use lib.IntN.{pos}
use lib.ListN.{length, get_or}
use mir.Syntax.{w8}
use Rattle.exact_numbers.specs.Numbers.{kept_pair}
use Rattle.integers.proofs.Bits.{back}
use Rattle.lists.proofs.Maps.{tabulated_none, tabulated_more, tabulated_all}
use Rattle.ps_memory.specs.Packed.{packed}
use Rattle.ps_memory.proofs.lines.pack.Goals as goal

pub loop-i-init : goal.loop-i-init
loop-i-init c = tabulated_none _ c.args.to.now

pub loop-i-preserved : goal.loop-i-preserved
loop-i-preserved c =
    let from = c.args.from.now in
    tabulated_more c.loop-i.invariant _
    (c.kept_pair.ensures ∙ ap₂ kept_pair (back w8 (get_or from (2 * c.loop-i.i) (pos 0)) (search rules)) (back w8 (get_or from (2 * c.loop-i.i + 1) (pos 0)) (search rules)))
    (omega arith)

pub returns : goal.returns
unfolding packed
returns c =
    tabulated_all c.loop-i.invariant (length c.args.to.now) (omega arith) (omega arith)
