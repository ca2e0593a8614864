use mathlib.Core.Path.{◌≡◌, refl, ◌∙◌}
use Prim.Native.Nat.{◌≤◌, ◌-◌}
use native.Mathlib.Omega.{arith}
use lib.Ieee.{nan}
use lib.ListN.{length, get_or, length-set}
use Rattle.lists.proofs.Maps.{Tabulated, tabulated_none, tabulated_more, tabulated_all, copied}
use Rattle.ps_delay_channels.proofs.memory.copy.Given as goal

abbrev pub invariant-loop-i : goal.invariant-loop-i
invariant-loop-i l = (length l.to ≡ length l.initial.to) × (l.i ≤ length l.from) × Tabulated (λ k. get_or l.from k nan) l.i l.initial.to l.to

abbrev pub decreases-loop-i : goal.decreases-loop-i
decreases-loop-i l = length l.from - l.i
