-- A band's detector reads what stood in its own row and place at the start, since the bands before it wrote elsewhere. Assumes nothing.
use mathlib.Core.Path.{◌≡◌, refl, ap, ◌∙◌}
use mathlib.Core.Bool.{true, false}
use mathlib.Core.List.{List}
use Prim.Native.Nat.{ℕ, suc, ◌+◌, ◌*◌, ◌<◌, ◌≤◌}
use native.Mathlib.Numerals.{add-one}
use native.Mathlib.Omega.{arith}
use lib.Ieee.{Float, nan}
use lib.ListN.{length, get_or, set}
use Rattle.layout.specs.declared.Layout.{Layout}
use Rattle.layout.specs.Numbers.{bands_of}
use Rattle.standard.specs.Detector.{Detector, detector_after, ducking}
use Rattle.ps_decorr_transient.specs.Gains.{detector_of, detectors_with, power_at, detector_then, enough, detectors_after, gains_after}
use Rattle.ps_decorr_transient.specs.Rows.{Rowed, Ducked, state_of}
use Rattle.ps_decorr_transient.proofs.Detectors.{detected_none, detected_other, detected_and, detected_same, detected_all}
use Rattle.ps_decorr_transient.proofs.Rows.{Slotted, slotted_more, rowed_none, rowed_and, rowed_next, rowed_then, rowed_same, rowed_all}
use Rattle.ps_decorr_transient.proofs.Slots.{factor_of, state_more, state_is, state_same}

-- ---- one band in one slot: its detector reads the power, whose place the factor takes
pub turn : (memory gains : List Float) {first last b n : ℕ} {l m : List Float} {old new : Detector} {gain : Float}
    → Rowed first last n (factor_of memory gains) gains l → Slotted first b n (λ j. factor_of memory gains j n) l m → old ≡ state_of memory gains n b
    → (next i : ℕ) → new ≡ detector_after old (get_or l i nan) → gain ≡ ducking new
    → next ≡ b + 1 → i ≡ 32 * b + n → (first ≤ b) × (n < 32) × (i < length l)
    → (new ≡ state_of memory gains (n + 1) b) × Slotted first next n (λ j. factor_of memory gains j n) l (set m i gain)
turn memory gains {b = b} {n} {new = new} {gain} r s is next i stepped given one place fits =
    let state : new ≡ state_of memory gains (n + 1) b = state_more memory gains n b is (rowed_next r fits.1 b i place) stepped in
    let factor : gain ≡ factor_of memory gains b n = given ∙ ap ducking (state ∙ ap (λ (m : ℕ). state_of memory gains m b) (add-one n)) in
    (state, slotted_more s next i gain one place factor fits.0 fits.1 fits.2)

-- ---- bands behind others
pub ducked_none : (first slots : ℕ) (memory gains : List Float) → Ducked first first slots memory gains memory gains
ducked_none first slots memory gains = record { detectors = detected_none _ _ _; rows = rowed_none _ _ _ _ }

pub ducked_and : {first middle last slots : ℕ} {memory gains m g newer next : List Float} → Ducked first middle slots memory gains m g → Ducked middle last slots m g newer next
    → first ≤ middle → middle ≤ last → slots ≤ 32 → Ducked first last slots memory gains newer next
ducked_and {first} {middle} {last} {slots} {memory} {gains} {m} {g} {newer} {next} r s low high few =
    record {
      detectors = detected_and r.detectors (detected_same s.detectors (λ b u v. same b slots u v (omega arith))) low high;
      rows = rowed_and r.rows (rowed_same s.rows (λ b n u v w. ap ducking (same b (suc n) u v w))) low high few;
    }
  where
    same : (b n : ℕ) → middle ≤ b → b < last → n ≤ slots → state_of m g n b ≡ state_of memory gains n b
    same b n u v w =
        state_same m g memory gains n b (detected_other r.detectors b (λ h k. omega arith))
        (λ i k. r.rows.outside b i (omega arith) (λ h p q. omega arith))

-- ---- a list without room
module _ (l : Layout) (memory samples input gains : List Float) (slots : ℕ) (short : enough l memory samples input gains slots ≡ false) where
  pub nothing_changes : (memory ≡ detectors_after l memory samples input gains slots) × (gains ≡ gains_after l memory samples input gains slots)
  unfolding detectors_after gains_after
  nothing_changes = (rw short, rw short)

-- ---- the frame: powers added, detectors gone over them
module _ (l : Layout) (memory samples input gains : List Float) (slots : ℕ) (powered newer ducked : List Float)
    (one : Rowed 0 (bands_of l) slots (power_at l samples input) gains powered) (two : Ducked 0 (bands_of l) slots memory powered newer ducked) (has : enough l memory samples input gains slots ≡ true) where
  then : (b n : ℕ) → b < bands_of l → n ≤ slots → state_of memory powered n b ≡ detector_then l memory samples input b n
  unfolding detector_then
  then b n u w = state_is memory powered n b (detector_of memory b) (power_at l samples input b) refl (λ m v. one.inside b m (omega arith) u (omega arith))

  pub new_detectors : 3 * bands_of l ≤ length memory → newer ≡ detectors_after l memory samples input gains slots
  unfolding detectors_after detectors_with
  new_detectors room = rw has (detected_all two.detectors (λ b. detector_then l memory samples input b slots) (λ b u. then b slots u (omega arith)) room)

  pub new_gains : ducked ≡ gains_after l memory samples input gains slots
  unfolding gains_after
  new_gains = rw has (rowed_all (rowed_same (rowed_then one two.rows) (λ b n v u w. ap ducking (then b (suc n) u w))))
