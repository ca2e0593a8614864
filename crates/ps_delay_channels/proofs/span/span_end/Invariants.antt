use mathlib.Core.Path.{◌≡◌}
use mathlib.Core.List.{List}
use Prim.Native.Nat.{ℕ, ◌<◌, ◌≤◌}
use lib.ListN.{get_or}
use Rattle.ps_delay_channels.proofs.span.span_end.Given as goal

-- the channels from k to before `end` are of one stereo band
abbrev pub Alike : List ℕ → ℕ → ℕ → Type 0
Alike map k end = (j : ℕ) → k ≤ j → j < end → get_or map j 0 ≡ get_or map k 0

abbrev pub invariant-loop-next : goal.invariant-loop-next
invariant-loop-next l = Alike l.map l.k l.next × ((l.k < l.next) × (l.next ≤ l.end))
