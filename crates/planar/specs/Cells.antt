-- A run of complex numbers in a flat list: the real parts from a place on, the imaginary parts `apart` places behind them. Assumes nothing.
use Rattle.std.specs.Prelude.{ℕ, ◌+◌, cond, List, [], ◌∷◌, ◌++◌, ltb, Float, get_or, set}
use Rattle.std.specs.Float.{nan}
use Rattle.complex.specs.declared.Complex.{Complex}
use Rattle.lists.specs.Rows.{rows, tabulate}

-- complex number i
abbrev pub cell : ℕ → List Float → ℕ → Complex
cell apart xs i = record { re = get_or xs i nan; im = get_or xs (i + apart) nan }

-- the list with v as complex number i
abbrev pub stored : ℕ → List Float → ℕ → Complex → List Float
stored apart xs i v = set (set xs i v.re) (i + apart) v.im

-- the list of a run of `apart` complex numbers
abbrev pub planar : ℕ → (ℕ → Complex) → List Float
planar apart f = tabulate (λ i. (f i).re) apart ++ tabulate (λ i. (f i).im) apart

-- the list of n complex numbers, the parts of each side by side
abbrev pub side_by_side : (ℕ → Complex) → ℕ → List Float
side_by_side f n = rows (λ i. (f i).re ∷ (f i).im ∷ []) n

-- the first n are new, the others as they were
abbrev pub overwritten : {A : Type 0} → ℕ → (ℕ → A) → (ℕ → A) → ℕ → A
overwritten n new old i = cond (ltb i n) (new i) (old i)
