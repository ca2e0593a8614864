-- `root_table::roots_24` meets its contract: the constant of the code and the list of the definition are one. Assumes nothing.
use mathlib.Core.Path.{refl}
use Rattle.root_table.specs.Values.{root24}
use Rattle.root_table.proofs.roots_24.Goals as goal

pub returns : goal.returns
unfolding root24
returns c = refl
