-- `ps_stereo::gathered` meets its contract: place b has number c of band b. Assumes nothing.
use Rattle.std.proofs.Common.{◌+◌, ◌*◌, get_or, rules}
use lib.Ieee.{nan}
use Rattle.lists.proofs.FromFn.{from_fn_is}
use Rattle.ps_stereo.proofs.gathered.Goals as goal

pub returns : goal.returns
returns c =
    from_fn_is _ (λ b. get_or c.args.matrices.now (8 * b + c.args.c) nan) (λ i y q k. search rules) c.from_fn.result 34 c.from_fn.ensures.items
