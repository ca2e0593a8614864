use mathlib.Core.Path.{◌≡◌}
use mathlib.Core.List.{List}
use Prim.Native.Nat.{ℕ, ◌+◌, ◌*◌, ◌<◌, ◌≤◌, ◌-◌}
use lib.Ieee.{Float}
use lib.IntN.{ℤ}
use lib.ListN.{length}
use Rattle.limits.specs.Limits as limits
use Rattle.lists.specs.Part.{part, put}
use Rattle.lists.proofs.Rows.{Rowed}
use Rattle.planar.specs.Frame.{numbers_of}
use Rattle.standard.specs.Mixing.{Cues}
use Rattle.standard.specs.declared.Modes.{Modes}
use Rattle.ps_stereo_envelope.specs.Envelope.{cue_of, phases_of, matrix_at, phases_then}
use Rattle.ps_stereo_envelope.proofs.each.Given as goal

-- band b's course after the turn
abbrev pub course_at : List ℤ → List ℤ → Modes → Cues → List ℤ → ℕ → List Float → ℕ → List Float
course_at coefficients directions modes cues phases e old b =
    put (8 * (e + 1)) 8 (part (limits.course * b) limits.course old) (numbers_of (matrix_at coefficients directions modes (cue_of cues b) (phases_of phases b)))

pub record Inv (coefficients directions : List ℤ) (modes : Modes) (cues : Cues) (e bands : ℕ) (phases₀ : List ℤ) (rows₀ : List Float) (phases : List ℤ) (rows : List Float) (b : ℕ) : Type 0 where
  pub within : b ≤ bands
  pub few : bands ≤ 34
  pub early : e < limits.envelopes
  pub phases_room : 4 * bands ≤ length phases₀
  pub rows_room : limits.course * bands ≤ length rows₀
  pub moved : Rowed (λ b. phases_then modes.phase (cue_of cues b) (phases_of phases₀ b)) b (4 * b) phases₀ phases
  pub written : Rowed (course_at coefficients directions modes cues phases₀ e rows₀) b (limits.course * b) rows₀ rows
  pub phases_long : length phases ≡ length phases₀
  pub rows_long : length rows ≡ length rows₀

abbrev pub invariant-loop-b : goal.invariant-loop-b
invariant-loop-b l = Inv l.tables.coefficients.now l.tables.directions.now l.modes l.cues l.e l.bands l.initial.phases l.initial.rows l.phases l.rows l.b

abbrev pub decreases-loop-b : goal.decreases-loop-b
decreases-loop-b l = l.bands - l.b
