-- The carried state of mixing: eight numbers of coefficients and four phase indices for each of 34 bands, as ps_stereo_envelope has them; fresh, and
-- after a change of layout (Table 8.47). Assumes nothing.
use Rattle.std.specs.Prelude.{ℕ, ◌+◌, ◌*◌, cond, List, eqb, pos, Float, length, get_or, replicate}
use Rattle.std.specs.Float.{nan}
use Rattle.layout.specs.declared.Layout.{Layout}
use Rattle.lists.specs.Rows.{rows, tabulate}
use Rattle.ps_map.specs.Maps.{map_coefficients}
use Rattle.standard.specs.Numbers.{zero}
use Rattle.ps_stereo.specs.declared.PsStereo.{PsStereo}

-- no coefficients, no phases
abbrev pub fresh_stereo : PsStereo
fresh_stereo = record { matrices = replicate 272 zero; phases = replicate 136 (pos 0) }

-- one of the eight numbers of every band
abbrev pub part_of : List Float → ℕ → List Float
part_of matrices c = tabulate (λ b. get_or matrices (8 * b + c) nan) 34

-- each of the eight numbers remapped in floating point
unfoldable pub remapped_to : Layout → List Float → List Float
remapped_to l matrices = rows (λ b. tabulate (λ c. get_or (map_coefficients (part_of matrices c) l) b nan) 8) 34

-- the coefficients of 34 bands, remapped; of another number they stay as they are
unfoldable pub remapped_in : Layout → List Float → List Float
remapped_in l matrices = cond (eqb (length matrices) 272) (remapped_to l matrices) matrices

-- the held coefficients remapped, and the phase history reset
unfoldable pub switched_to : Layout → PsStereo → PsStereo
switched_to l s = record { matrices = remapped_to l s.matrices; phases = replicate 136 (pos 0) }
