-- A history in a flat list, and a window of time over it. Assumes nothing.
use Rattle.std.specs.Prelude.{ℕ, suc, ◌+◌, ◌-◌, ◌<◌, List, ◌≡◌, Float, length}
use Rattle.complex.specs.declared.Complex.{Complex}
use Rattle.lists.specs.Rows.{tabulate}
use Rattle.standard.specs.Channel.{back}
use Rattle.planar.specs.Cells.{cell, planar}

-- the last d complex numbers of a history, in a run of d, the oldest first
abbrev pub image_of : ℕ → List Complex → List Float
image_of d history = planar d (λ i. back (d - suc i) history)

-- the history that the first d complex numbers hold, whose parts are `apart` places apart: the newest first
abbrev pub history_of : ℕ → ℕ → List Float → List Complex
history_of d apart xs = tabulate (λ i. cell apart xs (d - suc i)) d

-- a window of time whose first n + d complex numbers are the history's last, the oldest first: d from before the frame, then n slots of it
pub record Window (d apart n : ℕ) (window : List Float) (history : List Complex) : Type 0 where
  pub cells : (i : ℕ) → i < n + d → cell apart window i ≡ back (n + d - suc i) history
