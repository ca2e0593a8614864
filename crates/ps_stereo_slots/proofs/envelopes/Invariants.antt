use mathlib.Core.Path.{◌≡◌}
use mathlib.Core.List.{List}
use Prim.Native.Nat.{ℕ, ◌-◌, ◌≤◌}
use lib.Ieee.{Float}
use Rattle.standard.specs.declared.Matrix.{Matrix}
use Rattle.standard.specs.Interpolation.{start}
use Rattle.ps_stereo_slots.specs.Slots.{fraction_at}
use Rattle.ps_stereo_slots.specs.Regions.{row_matrix}
use Rattle.ps_stereo_slots.proofs.Filled.{Filled}
use Rattle.ps_stereo_slots.proofs.envelopes.Given as goal

pub record Inv (rows : List Float) (at : ℕ) (fractions : List Float) (borders : List ℕ) (count slots : ℕ) (old out : List Float) (from : Matrix) (first e : ℕ) : Type 0 where
  pub within : e ≤ count
  pub coefficients : from ≡ row_matrix rows at e
  pub place : first ≡ start borders e
  pub filled : Filled borders (fraction_at fractions) (row_matrix rows at) slots old e out

abbrev pub invariant-loop-e : goal.invariant-loop-e
invariant-loop-e l = Inv l.rows l.at l.ways.fractions.now l.borders l.count l.slots l.initial.out l.out l.from l.first l.e

abbrev pub decreases-loop-e : goal.decreases-loop-e
decreases-loop-e l = l.count - l.e
