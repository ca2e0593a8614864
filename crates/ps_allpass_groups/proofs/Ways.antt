-- The coefficients of a slot, by their places on the desk, and what a channel takes of them. Assumes nothing.
use mathlib.Core.Path.{◌≡◌, refl, ap, ap₂}
use mathlib.Core.Bool.{Bool, true, false, cond}
use mathlib.Core.List.{List}
use Prim.Native.Nat.{ℕ, ◌+◌}
use native.Mathlib.Omega.{arith}
use lib.Ieee.{Float, neg}
use Rattle.complex.specs.declared.Complex.{Complex}
use Rattle.complex.specs.Operations.{sum, scaled}
use Rattle.planar.specs.Cells.{cell}
use Rattle.standard.specs.Mixing.{taken}
use Rattle.ps_allpass_groups.specs.Desk.{from_on, step_on, matrix_on}

-- the coefficient of lane i whose lanes stand from a place of the desk on, in a slot
abbrev pub on_way : List Float → Float → Bool → ℕ → ℕ → Complex
on_way desk t held at i = cond held (cell 4 desk (at + i)) (sum (cell 4 desk (at + i)) (scaled (cell 4 desk (at + 32 + i)) t))

-- from + step t at places, however they are written
pub moved : (desk : List Float) (t : Float) {from to step next : ℕ} → from ≡ to → step ≡ next
    → sum (cell 4 desk from) (scaled (cell 4 desk step) t) ≡ sum (cell 4 desk to) (scaled (cell 4 desk next) t)
moved desk t e d = ap₂ (λ (a b : ℕ). sum (cell 4 desk a) (scaled (cell 4 desk b) t)) e d

module _ (desk : List Float) (t : Float) (i : ℕ) where
  pub way_11 : (held : Bool) → on_way desk t held 44 i ≡ (matrix_on t held i desk).h11
  unfolding matrix_on from_on step_on
  way_11 true = refl
  way_11 false = moved desk t refl (omega arith)

  pub way_12 : (held : Bool) → on_way desk t held 52 i ≡ (matrix_on t held i desk).h12
  unfolding matrix_on from_on step_on
  way_12 true = ap (cell 4 desk) (omega arith)
  way_12 false = moved desk t (omega arith) (omega arith)

  pub way_21 : (held : Bool) → on_way desk t held 60 i ≡ (matrix_on t held i desk).h21
  unfolding matrix_on from_on step_on
  way_21 true = ap (cell 4 desk) (omega arith)
  way_21 false = moved desk t (omega arith) (omega arith)

  pub way_22 : (held : Bool) → on_way desk t held 68 i ≡ (matrix_on t held i desk).h22
  unfolding matrix_on from_on step_on
  way_22 true = ap (cell 4 desk) (omega arith)
  way_22 false = moved desk t (omega arith) (omega arith)
