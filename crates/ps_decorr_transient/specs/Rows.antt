-- What the loops leave in a list of rows of 32, and in the list of detectors. Assumes nothing.
use Rattle.std.specs.Prelude.{ℕ, suc, ◌+◌, ◌*◌, ◌<◌, ◌≤◌, ◌≡◌, List, Float, length, get_or}
use Rattle.std.specs.Float.{nan}
use Rattle.complex.specs.declared.Complex.{Complex}
use Rattle.complex.specs.Operations.{squared_magnitude}
use Rattle.standard.specs.Numbers.{◌⊕◌}
use Rattle.standard.specs.Detector.{Detector, detector_at, ducking}
use Rattle.ps_decorr_transient.specs.declared.Follower.{Follower}
use Rattle.ps_decorr_transient.specs.Gains.{detector_of}

-- the first `slots` numbers of each row from `first` to before `last` are new; nothing else is
pub record Rowed (first last slots : ℕ) (new : ℕ → ℕ → Float) (old l : List Float) : Type 0 where
  pub long : length l ≡ length old
  pub inside : (b n : ℕ) → first ≤ b → b < last → n < slots → get_or l (32 * b + n) nan ≡ new b n
  pub outside : (b n : ℕ) → n < 32 → (first ≤ b → b < last → n < slots → ⊥) → get_or l (32 * b + n) nan ≡ get_or old (32 * b + n) nan

-- row b with the power of a channel's slots added
unfoldable pub added : List Float → (ℕ → Complex) → ℕ → ℕ → Float
added gains channel b n = get_or gains (32 * b + n) nan ⊕ squared_magnitude (channel n)

-- ---- detectors
abbrev pub detector_in : Follower → Detector
detector_in f = record { peak = f.peak; smooth = f.smooth; difference = f.difference }

-- the detectors of the bands from `first` to before `last` are new; nothing else is
pub record Detected (first last : ℕ) (new : ℕ → Detector) (old l : List Float) : Type 0 where
  pub long : length l ≡ length old
  pub inside : (b : ℕ) → first ≤ b → b < last → detector_of l b ≡ new b
  pub outside : (i : ℕ) → (3 * first ≤ i → i < 3 * last → ⊥) → get_or l i nan ≡ get_or old i nan

-- band b's detector after n slots of the powers in its row
unfoldable pub state_of : List Float → List Float → ℕ → ℕ → Detector
state_of memory gains n b = detector_at (detector_of memory b) (λ m. get_or gains (32 * b + m) nan) n

-- the detectors of those bands have gone over their rows, whose powers gave way to the factors
pub record Ducked (first last slots : ℕ) (memory gains kept ducked : List Float) : Type 0 where
  pub detectors : Detected first last (state_of memory gains slots) memory kept
  pub rows : Rowed first last slots (λ b n. ducking (state_of memory gains (suc n) b)) gains ducked
