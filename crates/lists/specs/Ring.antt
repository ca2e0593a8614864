-- A delay by d slots: a history, newest first, of which a ring of d cells with a position keeps what is still to be read.
use Rattle.std.specs.Prelude.{◌≡◌, cond, List, ℕ, suc, ◌+◌, ◌-◌, ◌%◌, ◌≤◌, ◌<◌, eqb, get_or}

-- what came n entries before the newest one of h; before the first there was z, silence
abbrev pub back : {A : Type 0} → A → ℕ → List A → A
back z n h = get_or h n z

-- cells 0 .. d - 1, of which `at` is the oldest and the next to be written: those before it were written since the position was 0, the others the time before
pub record Ring {A : Type 0} (z : A) (d at : ℕ) (cell : ℕ → A) (h : List A) : Type 0 where
  pub inside : at < d
  pub newer : (i : ℕ) → i < at → cell i ≡ back z (at - suc i) h
  pub older : (i : ℕ) → at ≤ i → i < d → cell i ≡ back z (at + d - suc i) h

-- the position after a write
unfoldable pub turned : ℕ → ℕ → ℕ
turned d at = cond (eqb (suc at) d) 0 (suc at)

-- the same by the number of slots so far: how many entries before the newest one that in cell j came; and where the one that came so many before stands
abbrev pub age : ℕ → ℕ → ℕ → ℕ
age d t j = (t + (d - suc j)) % d
