-- §8.6.4.5: the decimals of de-correlation. Assumes nothing.
use Rattle.std.specs.Prelude.{List, [], ◌∷◌, Float}
use Rattle.decimals.specs.Decimal.{plus}
use Rattle.decimals.specs.declared.DetectorFactors.{DetectorFactors}

-- a(m), Table 8.39
unfoldable pub all_pass : List Float
all_pass = plus 65143905753106 ∷ plus 56471812200776 ∷ plus 48954165955695 ∷ []

-- DECAY_SLOPE, §8.6.4.5.1
unfoldable pub decay_slope : Float
decay_slope = plus 5000000000000

-- α of Table 8.43, a_smooth of §8.6.4.5.1 and γ of §8.6.4.5.3
unfoldable pub detector_factors : DetectorFactors
detector_factors = record { decay = plus 76592833836465; smoothing = plus 25000000000000; impact = plus 150000000000000 }
