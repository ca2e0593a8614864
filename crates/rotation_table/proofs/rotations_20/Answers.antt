-- `rotation_table::rotations_20` meets its contract: the constant of the code and the list of the definition are one. Assumes nothing.
use mathlib.Core.Path.{refl}
use Rattle.rotation_table.specs.Values.{rotation20}
use Rattle.rotation_table.proofs.rotations_20.Goals as goal

pub returns : goal.returns
unfolding rotation20
returns c = refl
