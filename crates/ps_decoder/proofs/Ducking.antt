-- From samples that agree, the powers, the detectors and the ducking factors of a frame agree with those of the definitions. Assumes nothing.
use mathlib.Core.Path.{◌≡◌, ap, ◌∙◌}
use mathlib.Core.Bool.{Bool, true, cond, ◌&&◌}
use mathlib.Core.List.{List, ◌++◌}
use Prim.Native.Nat.{ℕ, suc, ◌+◌, ◌*◌, ◌/◌, ◌%◌, ◌<◌, ◌≤◌}
use native.Mathlib.Omega.{arith}
use borrow.Author.Tests.{lt-ltb, le-leb}
use lib.Dec.{ltb}
use lib.Ieee.{Float, nan}
use lib.ListN.{length, drop, get_or}
use Rattle.complex.specs.declared.Complex.{Complex}
use Rattle.layout.specs.declared.Layout.{Layout}
use Rattle.layout.specs.Numbers.{bands_of, channels_of, unsplit_from_of}
use Rattle.layout.proofs.Bounds.{bounds}
use Rattle.lists.specs.Rows.{tabulate}
use Rattle.lists.proofs.Maps.{tabulate_length, tabulate_at}
use Rattle.lists.proofs.Rows.{rows_same}
use Rattle.planar.specs.Frame.{sample_in}
use Rattle.ps_decorr_transient.specs.Gains.{detector_of, detector_numbers, detectors_with, power_at, detector_then, enough, detectors_after, gains_after}
use Rattle.standard.specs.Detector.{Detector, power_to, detector_at, ducking}
use Rattle.standard.proofs.Frames.{power_same, detector_same}

-- the detectors have room
pub ducking_room : (l : Layout) (memory samples input gains : List Float) (slots : ℕ) → 128 * slots ≤ length input → 64 * unsplit_from_of l ≤ length samples
    → length gains ≡ 1088 → length memory ≡ 102 → enough l memory samples input gains slots ≡ true
ducking_room l memory samples input gains slots there runs long held =
    let b = bounds l in
    rw (
      le-leb (128 * slots) (length input) there,
      le-leb (64 * unsplit_from_of l) (length samples) runs,
      le-leb (32 * bands_of l) (length gains) (omega arith),
      le-leb (3 * bands_of l) (length memory) (omega arith),
    )

module _ (l : Layout) (memory samples input : List Float) (slots : ℕ) (sample : ℕ → ℕ → Complex)
    (same : (n k : ℕ) → n < slots → k < channels_of l → sample_in l samples input n k ≡ sample n k) where
  -- band b's detector after n slots of the samples
  abbrev pub detector_by : ℕ → ℕ → Detector
  detector_by b n = detector_at (detector_of memory b) (λ m. power_to l (sample m) b (channels_of l)) n

  detector_then_lem : (b n : ℕ) → n ≤ slots → detector_then l memory samples input b n ≡ detector_by b n
  unfolding detector_then power_at
  detector_then_lem b n h =
      detector_same (detector_of memory b) (power_at l samples input b) (λ m. power_to l (sample m) b (channels_of l)) n
      (λ m u. power_same l b (sample_in l samples input m) (sample m) (channels_of l) (λ k w e. same m k (omega arith) w))

  module _ (gains : List Float) (room : enough l memory samples input gains slots ≡ true) where
    pub detectors_then : detectors_after l memory samples input gains slots ≡ detectors_with l (λ b. detector_by b slots) memory
    unfolding detectors_after detectors_with
    detectors_then =
        rw room
        (ap (λ (numbers : List Float). numbers ++ drop (3 * bands_of l) memory)
        (rows_same (λ b. detector_numbers (detector_then l memory samples input b slots)) (λ b. detector_numbers (detector_by b slots)) (bands_of l)
        (λ b u. ap detector_numbers (detector_then_lem b slots (omega arith)))))

    pub gains_length : length (gains_after l memory samples input gains slots) ≡ length gains
    unfolding gains_after
    gains_length = rw room (tabulate_length _ (length gains))

    pub gain_same : 32 * bands_of l ≤ length gains → slots ≤ 32 → (b n : ℕ) → b < bands_of l → n < slots
        → get_or (gains_after l memory samples input gains slots) (32 * b + n) nan ≡ ducking (detector_by b (suc n))
    unfolding gains_after
    gain_same long few b n h u =
        ap (λ (t : Bool). get_or (cond t (tabulate gain_at (length gains)) gains) (32 * b + n) nan) room
        ∙ tabulate_at gain_at (length gains) (32 * b + n) nan (omega arith)
        ∙ picked ((32 * b + n) / 32) ((32 * b + n) % 32) (omega arith) (omega arith)
        ∙ ap ducking (detector_then_lem b (suc n) u)
      where
        gain_at : ℕ → Float
        gain_at i = cond (ltb (i / 32) (bands_of l) && ltb (i % 32) slots) (ducking (detector_then l memory samples input (i / 32) (suc (i % 32)))) (get_or gains i nan)

        picked : (c m : ℕ) → c ≡ b → m ≡ n
            → cond (ltb c (bands_of l) && ltb m slots) (ducking (detector_then l memory samples input c (suc m))) (get_or gains (32 * b + n) nan)
            ≡ ducking (detector_then l memory samples input b (suc n))
        picked c m p q = rw (p, q, lt-ltb b (bands_of l) h, lt-ltb n slots u)
