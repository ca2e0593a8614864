-- `mixing_table::table` meets its contract: the constant of the code and the list of the definition are one. Assumes nothing.
use mathlib.Core.Path.{refl}
use Rattle.mixing_table.specs.Values.{mixing}
use Rattle.mixing_table.proofs.table.Goals as goal

pub returns : goal.returns
unfolding mixing
returns c = refl
