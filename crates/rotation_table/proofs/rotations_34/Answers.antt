-- `rotation_table::rotations_34` meets its contract: the constant of the code and the list of the definition are one. Assumes nothing.
use mathlib.Core.Path.{refl}
use Rattle.rotation_table.specs.Values.{rotation34}
use Rattle.rotation_table.proofs.rotations_34.Goals as goal

pub returns : goal.returns
unfolding rotation34
returns c = refl
