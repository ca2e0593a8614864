-- Whether a character lies in a range, by how it compares with the ends, and whether a text has a character that is no digit. Assumes nothing.
use mathlib.Core.Path.{◌≡◌, refl, sym, ap, ◌∙◌}
use mathlib.Core.Bool.{Bool, true, false, cond, not, and-false}
use mathlib.Core.List.{List}
use Prim.Native.Nat.{ℕ, ◌+◌, ◌≤◌, ◌<◌}
use native.Mathlib.Omega.{arith}
use borrow.Author.Tests.{le-leb, lt-leb}
use lib.Dec.{leb, ltb}
use lib.ListN.{length}
use Rattle.std.specs.Prelude.{Some, None, position}
use Rattle.std.specs.List.{position_or_len}
use Rattle.std.specs.Option.{is_some}
use Rattle.std.proofs.lemmas.List.Recursion.{is_position_or_len}
use Rattle.lists.specs.First.{before}
use Rattle.cue.specs.Digits.{between, is_digit}

module _ (low high c : ℕ) where
  pub inside : low ≤ c → c < high + 1 → between low high c ≡ true
  inside from to = rw (le-leb low c from, le-leb c high (omega arith))

  pub below : c < low → between low high c ≡ false
  below h = rw (lt-leb low c h)

  pub above : high + 1 ≤ c → between low high c ≡ false
  above h = rw (lt-leb c high (omega arith), and-false (leb low c))

-- one is found exactly if the digits end before the text does
abbrev other : ℕ → Bool
other c = not (is_digit c)

one_more : (t : Bool) (n : ℕ) → cond t (1 + n) 0 ≡ cond (not t) 0 (1 + n)
one_more true n = refl
one_more false n = refl

is_there : (t : Bool) (n : ℕ) → is_some {T = ℕ} (cond t (Some n) None) ≡ t
is_there true n = refl
is_there false n = refl

pub others : (text : List ℕ) → is_some (position (λ c. not (is_digit c)) text) ≡ ltb (before is_digit text) (length text)
others text =
    is_there (ltb (position_or_len other text) (length text)) (position_or_len other text)
    ∙ ap (λ (n : ℕ). ltb n (length text)) (sym (is_position_or_len (before is_digit) other refl (λ c cs. one_more (is_digit c) (before is_digit cs)) text))
