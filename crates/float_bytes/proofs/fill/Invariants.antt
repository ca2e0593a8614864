use mathlib.Core.List.{[]}
use mir.Syntax.{w64}
use lib.Ieee.{binary64, of_bits}
use lib.ListN.{get_or}
use Rattle.std.specs.Int.{from_le_bytes}
use Rattle.lists.proofs.Maps.{Tabulated}
use Rattle.float_bytes.proofs.fill.Given as goal

-- the first floats are those of the words before
abbrev pub invariant-loop-i : goal.invariant-loop-i
invariant-loop-i l = Tabulated (λ k. of_bits binary64 (from_le_bytes w64 (get_or l.word-items k []))) l.i l.initial.out l.out
