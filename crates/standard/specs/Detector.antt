-- §8.6.4.5.3 and §8.6.4.5.4: a stereo band's power, its transient detector and its ducking factor. Assumes nothing.
use Rattle.std.specs.Prelude.{ℕ, zero, suc, cond, eqb, Float}
use Rattle.std.specs.Float.Ieee.{lt}
use Rattle.complex.specs.declared.Complex.{Complex}
use Rattle.complex.specs.Operations.{squared_magnitude}
use Rattle.decimals.specs.Decorrelation.{detector_factors}
use Rattle.layout.specs.declared.Layout.{Layout}
use Rattle.ps_map.specs.Bands.{band_of}
use Rattle.standard.specs.Numbers as numbers
use Rattle.standard.specs.Numbers.{one, ◌⊕◌, ◌⊖◌, ◌⊗◌, ◌⊘◌}

-- the power of band b in one slot: of its channels below k, added in rising order from 0
unfoldable pub power_to : Layout → (ℕ → Complex) → ℕ → ℕ → Float
power_to l sample b zero = numbers.zero
power_to l sample b (suc k) = cond (eqb (band_of l k) b) (power_to l sample b k ⊕ squared_magnitude (sample k)) (power_to l sample b k)

-- PPeakDecayNrg, PSmoothNrg and PSmoothPeakDecayDiff
pub record Detector : Type 0 where
  pub peak : Float
  pub smooth : Float
  pub difference : Float

abbrev pub calm : Detector
calm = record { peak = numbers.zero; smooth = numbers.zero; difference = numbers.zero }

-- the peak decays by α unless the power is above that
unfoldable pub peak_after : Float → Float → Float
peak_after peak power = cond (lt (detector_factors.decay ⊗ peak) power) power (detector_factors.decay ⊗ peak)

-- H_smooth: one pole at 1 - a_smooth
unfoldable pub smoothed : Float → Float → Float
smoothed old new = old ⊕ detector_factors.smoothing ⊗ (new ⊖ old)

-- one slot later
unfoldable pub detector_after : Detector → Float → Detector
detector_after d power =
    record {
      peak = peak_after d.peak power;
      smooth = smoothed d.smooth power;
      difference = smoothed d.difference (peak_after d.peak power ⊖ power);
    }

-- G_TransientRatio: PSmoothNrg / (γ PSmoothPeakDecayDiff) where that difference, times γ, is above the power
unfoldable pub ducking : Detector → Float
ducking d = cond (lt d.smooth (detector_factors.impact ⊗ d.difference)) (d.smooth ⊘ (detector_factors.impact ⊗ d.difference)) one

-- after n slots of a band's powers
unfoldable pub detector_at : Detector → (ℕ → Float) → ℕ → Detector
detector_at d power zero = d
detector_at d power (suc n) = detector_after (detector_at d power n) (power n)
