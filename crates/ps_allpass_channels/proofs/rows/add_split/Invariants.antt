use mathlib.Core.List.{List}
use Prim.Native.Nat.{ℕ, ◌-◌, ◌≤◌}
use lib.Ieee.{Float}
use Rattle.complex.specs.declared.Complex.{Complex}
use Rattle.layout.specs.declared.Layout.{Layout}
use Rattle.layout.specs.Numbers.{split_of}
use Rattle.standard.specs.Hybrid.{synthesised}
use Rattle.ps_allpass_channels.specs.Desks.{standing, Rowed}
use Rattle.ps_allpass_channels.proofs.rows.add_split.Given as goal

pub record Inv (layout : Layout) (y : ℕ → Complex) (row₀ row : List Float) (p : ℕ) : Type 0 where
  pub within : p ≤ split_of layout
  pub few : split_of layout ≤ 5
  pub rowed : Rowed (synthesised layout y) 0 p row₀ row

abbrev pub invariant-loop-p : goal.invariant-loop-p
invariant-loop-p l = Inv l.layout (standing l.desks l.place) l.initial.row l.row l.p

abbrev pub decreases-loop-p : goal.decreases-loop-p
decreases-loop-p l = l.p-end - l.p
