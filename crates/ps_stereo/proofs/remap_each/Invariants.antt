use Rattle.ps_map.specs.Maps.{map_coefficients}
use Rattle.ps_stereo.specs.State.{part_of}
use Rattle.ps_stereo.proofs.Parts.{Remapped}
use Rattle.ps_stereo.proofs.remap_each.Given as goal

abbrev pub invariant-loop-c : goal.invariant-loop-c
invariant-loop-c l = Remapped (λ c. map_coefficients (part_of l.initial.matrices c) l.layout) l.c l.initial.matrices l.matrices
