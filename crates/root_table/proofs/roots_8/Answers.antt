-- `root_table::roots_8` meets its contract: the constant of the code and the list of the definition are one. Assumes nothing.
use mathlib.Core.Path.{refl}
use Rattle.root_table.specs.Values.{root8}
use Rattle.root_table.proofs.roots_8.Goals as goal

pub returns : goal.returns
unfolding root8
returns c = refl
