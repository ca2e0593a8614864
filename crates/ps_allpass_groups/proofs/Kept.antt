-- A slot leaves all but the sides of a desk: its constants, its coefficients and what they are to gain. Assumes nothing.
use mathlib.Core.Path.{◌≡◌, sym, ap, ◌∙◌}
use mathlib.Core.List.{List}
use Prim.Native.Nat.{ℕ, ◌+◌, ◌<◌}
use native.Mathlib.Omega.{arith}
use lib.Ieee.{Float, nan}
use lib.ListN.{take, get_or}
use lib.Seq.{get_or-take}
use Rattle.planar.specs.Cells.{cell}
use Rattle.planar.proofs.Cells.{by_parts}
use Rattle.standard.specs.declared.Chain.{Chain}
use Rattle.standard.specs.declared.Matrix.{Matrix}
use Rattle.ps_allpass_groups.specs.Desk.{chain_on, from_on, step_on}
use Rattle.ps_allpass_groups.proofs.OfLanes.{link_at, link_by_parts}

chain_by_parts : {x y : Chain} → x.fractional ≡ y.fractional → x.first ≡ y.first → x.second ≡ y.second → x.third ≡ y.third → x ≡ y
chain_by_parts p q r s = λ k. record { fractional = p k; first = q k; second = r k; third = s k }

matrix_by_parts : {x y : Matrix} → x.h11 ≡ y.h11 → x.h12 ≡ y.h12 → x.h21 ≡ y.h21 → x.h22 ≡ y.h22 → x ≡ y
matrix_by_parts p q r s = λ k. record { h11 = p k; h12 = q k; h21 = r k; h22 = s k }

module _ (new old : List Float) (kept : take 120 new ≡ take 120 old) where
  number_kept : (n : ℕ) → n < 120 → get_or new n nan ≡ get_or old n nan
  number_kept n l = sym (get_or-take 120 new n nan l) ∙ ap (λ (xs : List Float). get_or xs n nan) kept ∙ get_or-take 120 old n nan l

  cell_kept : (n : ℕ) → n + 4 < 120 → cell 4 new n ≡ cell 4 old n
  cell_kept n l = by_parts (number_kept n (omega arith)) (number_kept (n + 4) l)

  link_kept : (n : ℕ) → n + 8 < 120 → link_at n new ≡ link_at n old
  link_kept n l = link_by_parts (cell_kept n (omega arith)) (number_kept (n + 8) l)

  module _ (i : ℕ) (l : i < 4) where
    pub chain_kept : chain_on i new ≡ chain_on i old
    unfolding chain_on
    chain_kept =
        chain_by_parts (cell_kept i (omega arith)) (link_kept (8 + i) (omega arith)) (link_kept (20 + i) (omega arith)) (link_kept (32 + i) (omega arith))

    pub from_kept : from_on i new ≡ from_on i old
    unfolding from_on
    from_kept =
        matrix_by_parts (cell_kept (44 + i) (omega arith)) (cell_kept (44 + i + 8) (omega arith)) (cell_kept (44 + i + 16) (omega arith))
        (cell_kept (44 + i + 24) (omega arith))

    pub step_kept : step_on i new ≡ step_on i old
    unfolding step_on
    step_kept =
        matrix_by_parts (cell_kept (76 + i) (omega arith)) (cell_kept (76 + i + 8) (omega arith)) (cell_kept (76 + i + 16) (omega arith))
        (cell_kept (76 + i + 24) (omega arith))
