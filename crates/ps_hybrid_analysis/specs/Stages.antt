-- The stages of hybrid analysis on flat lists: a band's slots, the roots of its filters, and what a stage writes of the hybrid samples. Assumes nothing.
use Rattle.std.specs.Prelude.{ℕ, ◌+◌, ◌-◌, ◌*◌, ◌%◌, ◌<◌, ◌≤◌, ◌≡◌, cond, List, Float, length, drop}
use Rattle.complex.specs.declared.Complex.{Complex}
use Rattle.decimals.specs.declared.Prototype.{Prototype}
use Rattle.planar.specs.Cells.{cell, overwritten}
use Rattle.planar.specs.Frame.{sample_at}
use Rattle.standard.specs.Hybrid.{filters_of, modulation, type_a}

-- the slots of a QMF band: six of a run of history, then those of the input
abbrev pub band_at : List Float → List Float → ℕ → ℕ → Complex
band_at kept input p = overwritten 6 (cell 6 kept) (λ j. cell 1 input (128 * (j - 6) + 2 * p))

-- the root of filter q's tap m: of order 2Q for type A, of order 8 for type B
abbrev pub turn_of : Prototype → ℕ → ℕ → ℕ
turn_of p q m = cond (type_a p) (((2 * q + 1) * (m + 42)) % (2 * filters_of p)) ((4 * q * (m + 42)) % 8)

-- the roots that modulate a prototype, as floats: root t stands at 2 t, its imaginary part behind it
pub record Waves (p : Prototype) (waves : List Float) : Type 0 where
  pub at : (q m : ℕ) → cell 1 waves (2 * turn_of p q m) ≡ modulation p q m

-- the first slots of the channels from `from` to `to` are f's, all else is as it was
pub record Written (slots from to : ℕ) (f : ℕ → ℕ → Complex) (old new : List Float) : Type 0 where
  pub long : length new ≡ length old
  pub inside : (k n : ℕ) → from ≤ k → k < to → n < slots → sample_at new n k ≡ f k n
  pub below : (k n : ℕ) → k < from → n < 32 → sample_at new n k ≡ sample_at old n k
  pub behind : (k n : ℕ) → slots ≤ n → n < 32 → sample_at new n k ≡ sample_at old n k
  pub rest : drop (64 * to) new ≡ drop (64 * to) old
