-- `queue_decorr::channels::size` meets its contract: by the kind of the channel. Assumes nothing.
use mathlib.Core.Path.{sym}
use Rattle.ps_decorr.proofs.Ranges.{told}
use Rattle.queue_decorr.proofs.Numbers.{chain_size, long_size, short_size}
use Rattle.queue_decorr.proofs.channels.size.Goals as goal

pub returns-in-AllPass : goal.returns-in-AllPass
returns-in-AllPass c =
    let a = c.args in
    sym (chain_size a.layout a.k (told a.layout a.k c.kind.ensures c.in-AllPass.is))

pub returns-in-Long : goal.returns-in-Long
returns-in-Long c =
    let a = c.args in
    let is = told a.layout a.k c.kind.ensures c.in-Long.is in
    sym (long_size a.layout a.k is.0 is.1)

pub returns-in-Short : goal.returns-in-Short
returns-in-Short c =
    let a = c.args in
    let is = told a.layout a.k c.kind.ensures c.in-Short.is in
    sym (short_size a.layout a.k is.0 is.1)
