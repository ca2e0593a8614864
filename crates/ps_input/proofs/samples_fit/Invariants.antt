use mathlib.Core.Path.{◌≡◌}
use lib.ListN.{take}
use Rattle.calls.specs.Call.{sample_fits}
use Rattle.lists.specs.All.{all}
use Rattle.ps_input.proofs.samples_fit.Given as goal

abbrev pub invariant-loop-x : goal.invariant-loop-x
invariant-loop-x l = l.fit ≡ all sample_fits (take l.x-index l.samples)
