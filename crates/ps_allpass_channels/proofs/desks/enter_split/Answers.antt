-- `ps_allpass_channels::desks::enter_split` meets its contract: the channels that fill whole desks, then those that are left. Assumes nothing.
use mathlib.Core.Path.{refl}
use native.Mathlib.Omega.{arith}
use Rattle.ps_allpass_channels.proofs.DeskRuns.{channels_on}
use Rattle.ps_allpass_channels.proofs.desks.enter_split.Goals as goal

pub returns : goal.returns
returns c =
    channels_on c.split_desks.ensures c.split_rest.ensures (omega arith) (omega arith) (λ k j a b. refl)
