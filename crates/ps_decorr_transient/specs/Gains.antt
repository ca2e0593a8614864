-- The transient detectors of a frame (§8.6.4.5.3): for each band its peak, its smoothed power and its smoothed difference; and the ducking factors, for each
-- band a row of 32 slots. Assumes nothing.
use Rattle.std.specs.Prelude.{ℕ, suc, ◌+◌, ◌*◌, ◌/◌, ◌%◌, Bool, cond, ◌&&◌, List, [], ◌∷◌, ◌++◌, leb, ltb, Float, get_or, length, drop}
use Rattle.std.specs.Float.{nan}
use Rattle.layout.specs.declared.Layout.{Layout}
use Rattle.layout.specs.Numbers.{bands_of, channels_of, unsplit_from_of}
use Rattle.lists.specs.Rows.{rows, tabulate}
use Rattle.planar.specs.Frame.{sample_in}
use Rattle.standard.specs.Detector.{Detector, power_to, detector_at, ducking}

-- band b's detector, and its numbers
abbrev pub detector_of : List Float → ℕ → Detector
detector_of memory b = record { peak = get_or memory (3 * b) nan; smooth = get_or memory (3 * b + 1) nan; difference = get_or memory (3 * b + 2) nan }

abbrev pub detector_numbers : Detector → List Float
detector_numbers d = d.peak ∷ d.smooth ∷ d.difference ∷ []

-- the numbers that hold a layout's detectors; what lies behind stays
unfoldable pub detectors_with : Layout → (ℕ → Detector) → List Float → List Float
detectors_with l detector old = rows (λ b. detector_numbers (detector b)) (bands_of l) ++ drop (3 * bands_of l) old

-- the power of band b in slot n
unfoldable pub power_at : Layout → List Float → List Float → ℕ → ℕ → Float
power_at l samples input b n = power_to l (sample_in l samples input n) b (channels_of l)

module _ (l : Layout) (memory samples input : List Float) where
  -- band b's detector after n slots
  unfoldable pub detector_then : ℕ → ℕ → Detector
  detector_then b n = detector_at (detector_of memory b) (power_at l samples input b) n

  module _ (gains : List Float) where
    -- the input has a row for each slot, and the other lists have room for the layout; nothing changes where they do not
    abbrev pub enough : ℕ → Bool
    enough slots =
        leb (128 * slots) (length input) && leb (64 * unsplit_from_of l) (length samples) && leb (32 * bands_of l) (length gains) && leb (3 * bands_of l) (length memory)

    unfoldable pub detectors_after : ℕ → List Float
    detectors_after slots = cond (enough slots) (detectors_with l (λ b. detector_then b slots) memory) memory

    -- the ducking factor of band b in slot n stands at 32 b + n; the other places stay
    unfoldable pub gains_after : ℕ → List Float
    gains_after slots =
        cond (enough slots)
        (tabulate (λ i. cond (ltb (i / 32) (bands_of l) && ltb (i % 32) slots) (ducking (detector_then (i / 32) (suc (i % 32)))) (get_or gains i nan)) (length gains))
        gains
