use Prim.Native.Nat.{◌*◌}
use lib.ListN.{take}
use Rattle.lists.proofs.Front.{Front}
use Rattle.float_bytes.specs.Bytes.{bytes_of}
use Rattle.float_bytes.proofs.spill.Given as goal

-- the first bytes are those of the floats before
abbrev pub invariant-loop-i : goal.invariant-loop-i
invariant-loop-i l = Front (bytes_of (take l.i l.xs)) (8 * l.i) l.initial.out l.out
