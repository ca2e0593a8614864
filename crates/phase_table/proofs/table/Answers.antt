-- `phase_table::table` meets its contract: the constant of the code and the list of the definition are one. Assumes nothing.
use mathlib.Core.Path.{refl}
use Rattle.phase_table.specs.Values.{phase}
use Rattle.phase_table.proofs.table.Goals as goal

pub returns : goal.returns
unfolding phase
returns c = refl
