-- `bytes_of` from a place on: one byte more, or none. Assumes nothing.
use mathlib.Core.Path.{◌≡◌, refl}
use mathlib.Core.List.{List, [], ◌∷◌}
use Prim.Native.Nat.{ℕ, suc, ◌+◌, ◌*◌, ◌<◌, ◌≤◌}
use native.Mathlib.Numerals.{add-one}
use native.Mathlib.Nat.{not-suc-le-zero, le_of_suc-le-suc}
use native.Mathlib.Omega.{arith}
use lib.ListN.{length, drop, get_or}
use lib.Seq.{drop-cons}
use Rattle.cue.specs.Digits.{digit_of, bytes_of}

-- two digits are left
pub bytes_step : (text : List ℕ) (j : ℕ) → j + 1 < length text
    → bytes_of (drop j text) ≡ (digit_of (get_or text j 0) * 16 + digit_of (get_or text (j + 1) 0)) ∷ bytes_of (drop (j + 2) text)
unfolding bytes_of
bytes_step text j h =
    let n : suc (j + 1) ≡ j + 2 = omega arith in
    let low : drop (j + 1) text ≡ get_or text (j + 1) 0 ∷ drop (j + 2) text = rw (← n) (drop-cons text (j + 1) 0 h) in
    let high : drop j text ≡ get_or text j 0 ∷ drop (j + 1) text = rw add-one (drop-cons text j 0 (omega arith)) in
    rw (high, low)

-- one is left, or none
pub bytes_none : (text : List ℕ) → length text ≤ 1 → bytes_of text ≡ []
unfolding bytes_of
bytes_none [] h = refl
bytes_none (a ∷ []) h = refl
bytes_none (a ∷ (b ∷ text)) h = absurd (not-suc-le-zero (le_of_suc-le-suc h))
