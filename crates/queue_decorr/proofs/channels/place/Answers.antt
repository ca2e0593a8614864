-- `queue_decorr::channels::place` meets its contract: a layout has few channels. Assumes nothing.
use Prim.Native.Nat.{◌≤◌}
use native.Mathlib.Omega.{arith}
use Rattle.layout.proofs.Bounds.{bounds}
use Rattle.queue_decorr.proofs.channels.place.Goals as goal

few : (c : goal.After-min-deep) → c.args.k ≤ 91
few c = omega (arith, c.requires, (bounds c.args.layout).channels)

pub returns : goal.returns
returns c = rw (c.min-deep.ensures, c.short_delay.ensures)
