use mathlib.Core.Path.{◌≡◌}
use mathlib.Core.List.{List}
use Prim.Native.Nat.{ℕ, ◌*◌, ◌-◌, ◌≤◌}
use lib.Ieee.{Float}
use lib.IntN.{ℤ}
use lib.ListN.{length}
use Rattle.calls.specs.Call.{modes_of}
use Rattle.cue.specs.declared.Config.{Config}
use Rattle.cue.specs.declared.Header.{Header}
use Rattle.layout.specs.declared.Layout.{Layout}
use Rattle.layout.specs.Numbers.{bands_of}
use Rattle.limits.specs.Limits as limits
use Rattle.ps_data.specs.Indices.{PsIndices}
use Rattle.standard.specs.declared.Modes.{Modes}
use Rattle.ps_stereo_borders.specs.Steps.{Advanced}
use Rattle.ps_stereo_borders.proofs.envelopes.Given as goal

-- of every header with these modes and this configuration
pub record Inv (l : Layout) (indices : PsIndices) (count : ℕ) (directions phases₀ : List ℤ) (rows₀ : List Float) (modes : Modes) (config : Config) (phases : List ℤ) (rows : List Float) (e : ℕ) : Type 0 where
  pub within : e ≤ count
  pub few : count ≤ limits.envelopes
  pub turn : (h : Header) → modes ≡ modes_of h → config ≡ h.config → Advanced l h indices directions phases₀ rows₀ e phases rows
  pub phases_room : 4 * bands_of l ≤ length phases
  pub rows_room : limits.course * bands_of l ≤ length rows
  pub phases_long : length phases ≡ length phases₀
  pub rows_long : length rows ≡ length rows₀

abbrev pub invariant-loop-e : goal.invariant-loop-e
invariant-loop-e l = Inv l.layout l.indices l.count l.directions l.initial.phases l.initial.rows l.modes l.header.config l.phases l.rows l.e

abbrev pub decreases-loop-e : goal.decreases-loop-e
decreases-loop-e l = l.count - l.e
