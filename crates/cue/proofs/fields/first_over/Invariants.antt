use mathlib.Core.Path.{◌≡◌}
use Prim.Native.Nat.{◌+◌, ◌*◌, ◌-◌}
use Rattle.cue.specs.Checks.{every, found}
use Rattle.cue.proofs.fields.first_over.Given as goal

-- the bytes passed fit, so those left decide
abbrev pub invariant-loop-i : goal.invariant-loop-i
invariant-loop-i l = found l.bytes (every l.most l.count l.apart l.place) ≡ found l.bytes (every l.most (l.count - l.i) l.apart (l.place + l.i * l.apart))
