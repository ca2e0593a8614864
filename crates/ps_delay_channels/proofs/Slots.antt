-- The sum that a slot's coefficients make of a pair. Assumes nothing.
use mathlib.Core.Path.{◌≡◌, sym, ap₂}
use mathlib.Core.Bool.{Bool, false}
use mathlib.Core.List.{List}
use Prim.Native.Nat.{ℕ, ◌+◌, ◌*◌, ◌<◌}
use native.Mathlib.Omega.{arith}
use lib.Ieee.{Float, nan}
use lib.ListN.{get_or}
use Rattle.complex.specs.declared.Complex.{Complex}
use Rattle.complex.specs.Operations.{product, sum, scaled}
use Rattle.lists.specs.Part.{part}
use Rattle.lists.proofs.Parts.{part_at}
use Rattle.planar.specs.Cells.{cell}
use Rattle.planar.specs.Frame.{matrix_at}
use Rattle.planar.proofs.Cells.{by_parts}
use Rattle.standard.specs.declared.Matrix.{Matrix}
use Rattle.standard.specs.Mixing.{left_of, right_of}

-- ---- what a slot's coefficients make of pair j
abbrev pub weighing : (Bool → Matrix → Complex → Complex → Complex) → List Float → ℕ → Float → List Float → List Float → ℕ → Complex
weighing side runs n factor samples delayed j = side false (matrix_at runs n) (cell 1 samples (2 * j)) (scaled (cell 1 delayed (2 * j)) factor)

abbrev pub Weighed : (Bool → Matrix → Complex → Complex → Complex) → List Float → ℕ → Float → ℕ → List Float → List Float → List Float → Type 0
Weighed side runs n factor count samples delayed new = (j : ℕ) → j < count → cell 1 new (2 * j) ≡ weighing side runs n factor samples delayed j

module _ (runs : List Float) (n : ℕ) (few : n < 32) where
  -- a coefficient, read where the code reads it
  abbrev drawn : ℕ → ℕ → Complex
  drawn real imaginary = record { re = get_or runs real nan; im = get_or runs imaginary nan }

  coefficient : (p real imaginary : ℕ) → real ≡ p + n → imaginary ≡ p + (n + 32) → drawn real imaginary ≡ cell 32 (part p 64 runs) n
  coefficient p real imaginary a b =
      rw (a, b) (by_parts (sym (part_at p 64 runs n nan (omega arith))) (sym (part_at p 64 runs (n + 32) nan (omega arith))))

  module _ (x z : Complex) where
    abbrev pub left_drawn : Complex
    left_drawn = sum (product (drawn n (n + 32)) x) (product (drawn (n + 128) (n + 160)) z)

    abbrev pub right_drawn : Complex
    right_drawn = sum (product (drawn (n + 64) (n + 96)) x) (product (drawn (n + 192) (n + 224)) z)

    pub left_drawn_lem : left_drawn ≡ left_of false (matrix_at runs n) x z
    unfolding left_of
    left_drawn_lem =
        ap₂ (λ (h g : Complex). sum (product h x) (product g z))
        (coefficient 0 n (n + 32) (omega arith) (omega arith)) (coefficient 128 (n + 128) (n + 160) (omega arith) (omega arith))

    pub right_drawn_lem : right_drawn ≡ right_of false (matrix_at runs n) x z
    unfolding right_of
    right_drawn_lem =
        ap₂ (λ (h g : Complex). sum (product h x) (product g z))
        (coefficient 64 (n + 64) (n + 96) (omega arith) (omega arith)) (coefficient 192 (n + 192) (n + 224) (omega arith) (omega arith))
