-- The steps by which the slots are written: a region after the other, each from its first slot to its border, then the slots that hold.
-- Assumes nothing.
use Rattle.std.specs.Prelude.{ℕ, ◌+◌, ◌*◌, ◌≤◌, ◌<◌, List, ◌≡◌, Float, length}
use Rattle.complex.specs.Operations.{sum, difference, scaled}
use Rattle.lists.specs.Part.{part}
use Rattle.planar.specs.Cells.{stored}
use Rattle.planar.specs.Frame.{matrix_at, kept_matrix}
use Rattle.standard.specs.declared.Matrix.{Matrix}

-- ---- a slot

-- to - from
abbrev pub step_of : Matrix → Matrix → Matrix
step_of from to =
    record {
      h11 = difference to.h11 from.h11;
      h12 = difference to.h12 from.h12;
      h21 = difference to.h21 from.h21;
      h22 = difference to.h22 from.h22;
    }

-- from + step t
abbrev pub stepped : Matrix → Matrix → Float → Matrix
stepped from step t =
    record {
      h11 = sum from.h11 (scaled step.h11 t);
      h12 = sum from.h12 (scaled step.h12 t);
      h21 = sum from.h21 (scaled step.h21 t);
      h22 = sum from.h22 (scaled step.h22 t);
    }

-- the runs with h in slot n
abbrev pub stored_matrix : List Float → ℕ → Matrix → List Float
stored_matrix runs n h = stored 32 (stored 32 (stored 32 (stored 32 runs n h.h11) (64 + n) h.h12) (128 + n) h.h21) (192 + n) h.h22

-- ---- a region

-- the slots from `first` to before `end` are new, the others as they were
pub record Written (first end : ℕ) (new : ℕ → Matrix) (old runs : List Float) : Type 0 where
  pub long : length runs ≡ 256
  pub inside : (n : ℕ) → first ≤ n → n < end → matrix_at runs n ≡ new n
  pub before : (n : ℕ) → n < 32 → n < first → matrix_at runs n ≡ matrix_at old n
  pub behind : (n : ℕ) → n < 32 → end ≤ n → matrix_at runs n ≡ matrix_at old n

-- a band whose course stands at `at`: coefficients at the border before envelope e
abbrev pub row_matrix : List Float → ℕ → ℕ → Matrix
row_matrix rows at e = kept_matrix (part (at + 8 * e) 8 rows)
