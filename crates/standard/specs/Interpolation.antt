-- §8.6.4.6.4 and §8.6.4.6.5: a band's coefficients in each slot of a frame. Assumes nothing.
use Rattle.std.specs.Prelude.{ℕ, zero, suc, ◌-◌, max, Bool, ◌&&◌, cond, List, leb, Float, get_or, length}
use Rattle.complex.specs.declared.Complex.{Complex}
use Rattle.complex.specs.Operations.{sum, difference, scaled}
use Rattle.standard.specs.declared.Matrix.{Matrix}
use Rattle.standard.specs.declared.Modes.{Modes}
use Rattle.standard.specs.Numbers.{whole, ◌⊘◌}
use Rattle.standard.specs.Mixing.{no_matrix, Cue, Kept, kept_after}

-- ---- the coefficients at the borders

-- what a band keeps after e envelopes
unfoldable pub kept_at : Modes → (ℕ → Cue) → Kept → ℕ → Kept
kept_at modes cue kept zero = kept
kept_at modes cue kept (suc e) = kept_after modes (kept_at modes cue kept e) (cue e)

-- ---- between them; the coefficients at border e - 1 are h e, so h 0 are those kept from the frame before

abbrev pub border_at : List ℕ → ℕ → ℕ
border_at borders e = get_or borders e 0

-- the first slot of the region of envelope e: the one after the border before it, which is -1 at first
abbrev pub start : List ℕ → ℕ → ℕ
start borders zero = 0
start borders (suc e) = suc (border_at borders e)

-- t = (n - previous border) / max(1, border - previous border)
unfoldable pub fraction : List ℕ → ℕ → ℕ → Float
fraction borders e n = whole (suc n - start borders e) ⊘ whole (max 1 (suc (border_at borders e) - start borders e))

-- from + (to - from) t
unfoldable pub towards : Complex → Complex → Float → Complex
towards from to t = sum from (scaled (difference to from) t)

unfoldable pub between : Matrix → Matrix → Float → Matrix
between from to t =
    record {
      h11 = towards from.h11 to.h11 t;
      h12 = towards from.h12 to.h12 t;
      h21 = towards from.h21 to.h21 t;
      h22 = towards from.h22 to.h22 t;
    }

-- slot n after the regions of e envelopes have been written, each from its start to its border; one whose border falls back writes nothing
unfoldable pub filled_by : List ℕ → (ℕ → ℕ → Float) → (ℕ → Matrix) → ℕ → ℕ → Matrix
filled_by borders t h n zero = no_matrix
filled_by borders t h n (suc e) =
    cond (leb (start borders e) n && leb n (border_at borders e)) (between (h e) (h (suc e)) (t e n)) (filled_by borders t h n e)

-- from the slot after the last border on the last coefficients are held; without envelopes, the kept ones all frame
unfoldable pub matrix_by : List ℕ → (ℕ → ℕ → Float) → (ℕ → Matrix) → ℕ → Matrix
matrix_by borders t h n = cond (leb (start borders (length borders)) n) (h (length borders)) (filled_by borders t h n (length borders))

-- slot n's coefficients
abbrev pub matrix_in : List ℕ → (ℕ → Matrix) → ℕ → Matrix
matrix_in borders h n = matrix_by borders (fraction borders) h n
