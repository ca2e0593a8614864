-- `ps_input::samples_fit` meets its contract: the flag says whether all so far fit. Assumes nothing.
use mathlib.Core.Path.{refl}
use native.Mathlib.Omega.{arith}
use lib.Ieee.{nan}
use lib.ListN.{get_or}
use Rattle.lists.proofs.Alls.{all_so_far, all_whole}
use Rattle.calls.specs.Call.{sample_fits}
use Rattle.ps_input.proofs.Limits.{sample_tested}
use Rattle.ps_input.proofs.samples_fit.Goals as goal

pub loop-x-init : goal.loop-x-init
loop-x-init c = refl

pub loop-x-preserved : goal.loop-x-preserved
loop-x-preserved c =
    let s = c.args.samples.now in
    all_so_far sample_fits s c.loop-x.x-index nan c.loop-x.fit _ (omega arith) (sample_tested (get_or s c.loop-x.x-index nan)) c.loop-x.invariant

pub returns : goal.returns
returns c =
    all_whole sample_fits c.args.samples.now c.loop-x.x-index c.loop-x.fit (omega arith) c.loop-x.invariant
