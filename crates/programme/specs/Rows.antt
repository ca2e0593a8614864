-- The rows of samples that a frame looks ahead at. Assumes nothing.
use Rattle.std.specs.Prelude.{ℕ, ◌+◌, ◌*◌, min, cond, List, ◌++◌, eqb, Float, length, get_or, drop}
use Rattle.std.specs.Float.{nan}
use Rattle.lists.specs.Rows.{tabulate}

-- of 38 rows the six behind a frame's own, 32 at most, come to the front; a list of another length stays
unfoldable pub carried_rows : ℕ → List Float → List Float
carried_rows slots input = cond (eqb (length input) 4864) (tabulate (λ i. get_or input (128 * min slots 32 + i) nan) 768 ++ drop 768 input) input
