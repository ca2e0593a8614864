-- Four lanes of complex numbers side by side: cell j of lane i stands at 8 j + i, its imaginary part four places behind it. Assumes nothing.
use Rattle.std.specs.Prelude.{ℕ, ◌+◌, ◌*◌, List, Float}
use Rattle.complex.specs.declared.Complex.{Complex}
use Rattle.planar.specs.Cells.{cell}

-- the cells of a lane
unfoldable pub on : ℕ → List Float → ℕ → Complex
on lane tape j = cell 4 tape (8 * j + lane)
