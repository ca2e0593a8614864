use Prim.Native.Nat.{◌-◌, ◌≤◌}
use Rattle.ps_decorr_transient.proofs.Powers.{Summed, in_row, in_column}
use Rattle.ps_decorr_transient.proofs.add_powers.Given as goal

abbrev pub invariant-loop-k : goal.invariant-loop-k
invariant-loop-k l = (l.k ≤ l.unsplit) × Summed l.map (in_row l.samples) 0 l.k l.slots l.initial.gains l.gains

abbrev pub decreases-loop-k : goal.decreases-loop-k
decreases-loop-k l = l.unsplit - l.k

abbrev pub invariant-loop-k-2 : goal.invariant-loop-k-2
invariant-loop-k-2 l = (l.unsplit ≤ l.k) × (l.k ≤ l.channels) × Summed l.map (in_column l.input l.unsplit l.split) l.unsplit l.k l.slots l.initial.gains l.gains

abbrev pub decreases-loop-k-2 : goal.decreases-loop-k-2
decreases-loop-k-2 l = l.channels - l.k
