-- `ps_map::parameter_map` meets its contract: each table of the source is the definition's. Assumes nothing.
use mathlib.Core.Path.{refl}
use Rattle.ps_map.specs.Bands.{bands20, bands34}
use Rattle.ps_map.proofs.parameter_map.Goals as goal

pub returns-in-Bands20 : goal.returns-in-Bands20
unfolding bands20
returns-in-Bands20 c = rw c.in-Bands20.is refl

pub returns-in-Bands34 : goal.returns-in-Bands34
unfolding bands34
returns-in-Bands34 c = rw c.in-Bands34.is refl
