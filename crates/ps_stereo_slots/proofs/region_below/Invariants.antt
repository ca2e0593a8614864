use mathlib.Core.Path.{◌≡◌}
use Rattle.ps_stereo_slots.specs.Envelopes.{region_below}
use Rattle.ps_stereo_slots.proofs.region_below.Given as goal

abbrev pub invariant-loop-e : goal.invariant-loop-e
invariant-loop-e l = region_below l.borders l.n l.e ≡ region_below l.borders l.n l.count
