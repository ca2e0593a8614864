-- A decimal of the standard, which prints at most 14 places, as the float nearest to it. Assumes nothing.
use Rattle.std.specs.Prelude.{true, false, ℕ, ◌^◌, Float}
use Rattle.std.specs.Float.{binary64}
use Rattle.std.specs.Float.Ieee.{round}

-- n · 10^-14, rounded once; and its negative
abbrev pub plus : ℕ → Float
plus n = round binary64 false n (10 ^ 14)

abbrev pub minus : ℕ → Float
minus n = round binary64 true n (10 ^ 14)
