-- `root_table::roots_16` meets its contract: the constant of the code and the list of the definition are one. Assumes nothing.
use mathlib.Core.Path.{refl}
use Rattle.root_table.specs.Values.{root16}
use Rattle.root_table.proofs.roots_16.Goals as goal

pub returns : goal.returns
unfolding root16
returns c = refl
