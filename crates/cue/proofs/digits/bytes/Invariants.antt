use Prim.Native.Nat.{◌*◌}
use lib.ListN.{drop, replicate}
use Rattle.limits.specs.Limits as limits
use Rattle.lists.proofs.Fills.{Filled}
use Rattle.cue.specs.Digits.{bytes_of}
use Rattle.cue.proofs.digits.bytes.Given as goal

-- the bytes written and those of the digits left make the whole
abbrev pub invariant-loop-i : goal.invariant-loop-i
invariant-loop-i l = Filled (bytes_of (drop (2 * l.i) l.text)) (bytes_of l.text) (replicate limits.bytes 0) l.out l.i
