-- A detector goes on by one slot with the operations of the code, and it depends on the powers that it passed alone. Assumes nothing.
use mathlib.Core.Path.{◌≡◌, refl, ◌∙◌}
use mathlib.Core.Bool.{cond}
use mathlib.Core.List.{List}
use Prim.Native.Nat.{ℕ, suc, ◌+◌, ◌*◌, ◌<◌}
use native.Mathlib.Numerals.{add-one}
use lib.Ieee.{Float, nan, binary64, lt, add, sub, mul}
use lib.ListN.{get_or}
use Rattle.decimals.specs.declared.DetectorFactors.{DetectorFactors}
use Rattle.decimals.specs.Decorrelation.{detector_factors}
use Rattle.standard.specs.Numbers.{one, ◌⊕◌, ◌⊖◌, ◌⊗◌, ◌⊘◌}
use Rattle.standard.specs.Detector.{Detector, peak_after, smoothed, detector_after, detector_at, ducking}
use Rattle.standard.proofs.Frames.{detector_same}
use Rattle.ps_decorr_transient.specs.Gains.{detector_of}
use Rattle.ps_decorr_transient.specs.Rows.{state_of}

module _ (factors : DetectorFactors) (is : factors ≡ detector_factors) where
  -- the detector of the code after a slot
  abbrev slot_after : Detector → Float → Float → Detector
  slot_after old power peak =
      record {
        peak = peak;
        smooth = add binary64 old.smooth (mul binary64 factors.smoothing (sub binary64 power old.smooth));
        difference = add binary64 old.difference (mul binary64 factors.smoothing (sub binary64 (sub binary64 peak power) old.difference));
      }

  pub slot : (old : Detector) (power peak : Float) → peak ≡ cond (lt (mul binary64 factors.decay old.peak) power) power (mul binary64 factors.decay old.peak)
      → slot_after old power peak ≡ detector_after old power
  unfolding detector_after peak_after smoothed ◌⊕◌ ◌⊖◌ ◌⊗◌
  slot old power peak e = rw (e, is)

  pub ducked : (d : Detector) (gain : Float) → gain ≡ cond (lt d.smooth (mul binary64 factors.impact d.difference)) (d.smooth ⊘ mul binary64 factors.impact d.difference) one → gain ≡ ducking d
  unfolding ducking ◌⊗◌
  ducked d gain e = rw (e, is)

-- the factor of slot n
abbrev pub factor_of : List Float → List Float → ℕ → ℕ → Float
factor_of memory gains b n = ducking (state_of memory gains (suc n) b)

-- before the first slot, and one slot more
pub state_none : (memory gains : List Float) (b : ℕ) → state_of memory gains 0 b ≡ detector_of memory b
unfolding state_of detector_at
state_none memory gains b = refl

pub state_more : (memory gains : List Float) (n b : ℕ) {power : Float} {old new : Detector} → old ≡ state_of memory gains n b → power ≡ get_or gains (32 * b + n) nan
    → new ≡ detector_after old power → new ≡ state_of memory gains (n + 1) b
unfolding state_of detector_at
state_more memory gains n b r p e = e ∙ rw (r, p, add-one n)

-- ---- powers that agree
pub state_is : (memory gains : List Float) (n b : ℕ) (d : Detector) (power : ℕ → Float) → detector_of memory b ≡ d → ((m : ℕ) → m < n → get_or gains (32 * b + m) nan ≡ power m) → state_of memory gains n b ≡ detector_at d power n
unfolding state_of
state_is memory gains n b d power e h = rw e (detector_same d (λ m. get_or gains (32 * b + m) nan) power n h)

pub state_same : (m g memory gains : List Float) (n b : ℕ) → detector_of m b ≡ detector_of memory b → ((i : ℕ) → i < n → get_or g (32 * b + i) nan ≡ get_or gains (32 * b + i) nan) → state_of m g n b ≡ state_of memory gains n b
unfolding state_of
state_same m g memory gains n b e h = state_is m g n b (detector_of memory b) (λ i. get_or gains (32 * b + i) nan) e h
