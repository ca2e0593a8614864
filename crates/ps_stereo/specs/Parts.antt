-- A part of a band's eight numbers, written for band after band. Assumes nothing.
use Rattle.std.specs.Prelude.{ℕ, ◌+◌, ◌*◌, ◌<◌, ◌≡◌, ◌≢◌, List, Float, length, get_or}
use Rattle.std.specs.Float.{nan}

-- number c of the first `count` bands is the part's, and no other number is new
pub record Scattered (c : ℕ) (part : List Float) (count : ℕ) (old new : List Float) : Type 0 where
  pub long : length new ≡ length old
  pub written : (b : ℕ) → b < count → get_or new (8 * b + c) nan ≡ get_or part b nan
  pub kept : (b e : ℕ) → e < 8 → e ≢ c → get_or new (8 * b + e) nan ≡ get_or old (8 * b + e) nan
