-- The claim: each question has its row's answer. Both sides are computed. Assumes nothing.
use mathlib.Core.Path.{◌≡◌, refl}
use mathlib.Core.List.{List, map}
use lib.IntN.{ℤ}
use Rattle.lists.specs.Rows.{rows}
use Rattle.phase_table.specs.Values.{phase}
use Rattle.ps_rows.specs.Steps.{step}
use Rattle.worked_samples.specs.Samples.{Question, answer, samples}

pub samples_hold : map (λ (s : Question × List ℤ). answer s.0) samples ≡ map (λ (s : Question × List ℤ). s.1) samples
unfolding answer samples phase rows step
samples_hold = refl
