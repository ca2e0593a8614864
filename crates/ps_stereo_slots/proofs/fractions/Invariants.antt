use Prim.Native.Nat.{◌/◌, ◌%◌}
use Rattle.lists.proofs.Maps.{Tabulated}
use Rattle.standard.specs.Interpolation.{fraction}
use Rattle.ps_stereo_slots.proofs.fractions.Given as goal

abbrev pub invariant-loop-i : goal.invariant-loop-i
invariant-loop-i l = Tabulated (λ j. fraction l.borders (j / 32) (j % 32)) l.i l.initial.out l.out
