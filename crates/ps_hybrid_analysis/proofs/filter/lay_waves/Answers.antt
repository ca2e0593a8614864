-- `ps_hybrid_analysis::filter::lay_waves` meets its contract: each prototype has the roots of its case. Assumes nothing.
use mathlib.Core.List.{List}
use mathlib.Core.Path.{ap, ◌∙◌}
use Prim.Native.Nat.{◌*◌}
use native.Mathlib.Omega.{arith}
use lib.IntN.{ℤ}
use Rattle.decimals.specs.declared.Prototype.TheVariants.{EighthsOfBand0, Halves, Twelfths, EighthsOfBand1, Quarters}
use Rattle.fixed.specs.Real.{pair_at}
use Rattle.standard.specs.Hybrid.{modulation}
use Rattle.ps_hybrid_analysis.specs.Stages.{turn_of}
use Rattle.ps_hybrid_analysis.proofs.filter.lay_waves.Goals as goal

pub returns-in-EighthsOfBand0 : goal.returns-in-EighthsOfBand0
unfolding modulation
returns-in-EighthsOfBand0 c =
    rw c.in-EighthsOfBand0.is (record { at = λ q m. c.floats.ensures (turn_of EighthsOfBand0 q m) (omega arith) ∙ ap (λ (t : List ℤ). pair_at t (2 * turn_of EighthsOfBand0 q m)) c.roots_16.ensures })

pub returns-in-Halves : goal.returns-in-Halves
unfolding modulation
returns-in-Halves c =
    rw c.in-Halves.is (record { at = λ q m. c.floats-in-Halves.ensures (turn_of Halves q m) (omega arith) ∙ ap (λ (t : List ℤ). pair_at t (2 * turn_of Halves q m)) c.roots_8.ensures })

pub returns-in-Twelfths : goal.returns-in-Twelfths
unfolding modulation
returns-in-Twelfths c =
    rw c.in-Twelfths.is (record { at = λ q m. c.floats-in-Twelfths.ensures (turn_of Twelfths q m) (omega arith) ∙ ap (λ (t : List ℤ). pair_at t (2 * turn_of Twelfths q m)) c.roots_24.ensures })

pub returns-in-EighthsOfBand1 : goal.returns-in-EighthsOfBand1
unfolding modulation
returns-in-EighthsOfBand1 c =
    rw c.in-EighthsOfBand1.is (record { at = λ q m. c.floats-in-EighthsOfBand1.ensures (turn_of EighthsOfBand1 q m) (omega arith) ∙ ap (λ (t : List ℤ). pair_at t (2 * turn_of EighthsOfBand1 q m)) c.roots_16-in-EighthsOfBand1.ensures })

pub returns-in-Quarters : goal.returns-in-Quarters
unfolding modulation
returns-in-Quarters c =
    rw c.in-Quarters.is (record { at = λ q m. c.floats-in-Quarters.ensures (turn_of Quarters q m) (omega arith) ∙ ap (λ (t : List ℤ). pair_at t (2 * turn_of Quarters q m)) c.roots_8-in-Quarters.ensures })
