-- §8.6.4.6.4: in which envelope's region a slot lies. Where borders fall back, the last region that has the slot is the one that was written last.
-- Assumes nothing.
use Rattle.std.specs.Prelude.{ℕ, zero, suc, Bool, cond, ◌&&◌, List, leb}
use Rattle.standard.specs.Interpolation.{start, border_at}

-- from the slot after the border before envelope e to its border
abbrev pub in_region : List ℕ → ℕ → ℕ → Bool
in_region borders e n = leb (start borders e) n && leb n (border_at borders e)

-- the last of the first envelopes whose region has slot n
unfoldable pub region_below : List ℕ → ℕ → ℕ → ℕ
region_below borders n zero = 0
region_below borders n (suc e) = cond (in_region borders e n) e (region_below borders n e)

-- the same, or the number of envelopes from the slot after the last border on
unfoldable pub region_of : List ℕ → ℕ → ℕ → ℕ
region_of borders count n = cond (leb (start borders count) n) count (region_below borders n count)
