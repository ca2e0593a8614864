-- Document 01, 'Indices': the stand-alone map. Lengths 10, 20, 34 and targets 20, 34, values -15 to 15; elsewhere it refuses, with 5 for lengths or
-- targets before 4 for values. Assumes nothing.
use Rattle.std.specs.Prelude.{ℕ, List, Bool, true, false, cond, not, eqb, ℤ, pos, negsuc, Result, Ok, Err, length}
use Rattle.std.specs.Int.Signed.{lt_z}
use Rattle.lists.specs.All.{all}
use Rattle.answer.specs.declared.Answer.{Answer}
use Rattle.answer.specs.declared.Answer.TheVariants.{Buffers, Field}
use Rattle.layout.specs.declared.Layout.{Layout}
use Rattle.layout.specs.declared.Layout.TheVariants.{Bands20, Bands34}
use Rattle.ps_map.specs.declared.Mapped.{Mapped}
use Rattle.ps_map.specs.Maps.{map_row, padded_row}

abbrev pub length_fits : ℕ → Bool
length_fits n = cond (eqb n 10) true (cond (eqb n 20) true (eqb n 34))

abbrev pub value_fits : ℤ → Bool
value_fits z = cond (lt_z z (negsuc 14)) false (not (lt_z (pos 15) z))

-- lengths and target are right
unfoldable pub by_values : List ℤ → Layout → ℕ → Result Mapped Answer
by_values v layout target = cond (all value_fits v) (Ok (record { bands = target; row = padded_row (map_row v layout) })) (Err Field)

unfoldable pub map_indices : List ℤ → ℕ → Result Mapped Answer
map_indices v target =
    cond (length_fits (length v))
    (cond (eqb target 20) (by_values v Bands20 target)
    (cond (eqb target 34) (by_values v Bands34 target) (Err Buffers)))
    (Err Buffers)
