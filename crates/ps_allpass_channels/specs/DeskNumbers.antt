-- The desks number by number: channel k's numbers stand four places apart, 34 of them. What is written there, channel by channel. Assumes nothing.
use Rattle.std.specs.Prelude.{ℕ, ◌+◌, ◌*◌, ◌/◌, ◌%◌, ◌≤◌, ◌<◌, cond, List, ◌≡◌, eqb, Float, length, get_or}
use Rattle.std.specs.Float.{nan}
use Rattle.complex.specs.declared.Complex.{Complex}

-- number j of channel k: 0 to 10 are its chain's, 11 to 18 its eight coefficients at a border, 19 to 26 what they gain until another
abbrev pub number_at : List Float → ℕ → ℕ → Float
number_at desks k j = get_or desks (136 * (k / 4) + k % 4 + 4 * j) nan

-- 27 and 28 are a sample, 29 is a ducking factor
abbrev pub sample_number : Complex → ℕ → Float
sample_number x j = cond (eqb j 27) x.re x.im

-- of the channels from `lo` to before `hi`, some numbers from `first` on are new; other channels, and all numbers before `first`, are as they were
pub record Put (lo hi first : ℕ) (Some : ℕ → Type 0) (new : ℕ → ℕ → Float) (old desks : List Float) : Type 0 where
  pub long : length desks ≡ length old
  pub inside : (k j : ℕ) → lo ≤ k → k < hi → first ≤ j → j < 34 → Some j → number_at desks k j ≡ new k j
  pub below : (k j : ℕ) → k < lo → j < 34 → number_at desks k j ≡ number_at old k j
  pub above : (k j : ℕ) → hi ≤ k → j < 34 → number_at desks k j ≡ number_at old k j
  pub before : (k j : ℕ) → j < first → number_at desks k j ≡ number_at old k j
