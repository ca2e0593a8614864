-- A complex number cleared by the channel that its parts belong to, and one of another channel; and a part of a list that is lent to be cleared.
-- Assumes nothing.
use Prim.Native.Nat.{ℕ, ◌+◌, ◌-◌, ◌<◌, ◌≤◌}
use native.Mathlib.Omega.{arith}
use mathlib.Core.Path.{◌≡◌, refl, sym, subst, ap, ◌∙◌}
use mathlib.Core.Bool.{Bool, true, false}
use mathlib.Core.List.{List}
use borrow.Author.Tests.{ltb-true, ltb-false}
use lib.Dec.{ltb}
use lib.Ieee.{Float, nan}
use lib.ListN.{length, get_or, replicate, length-append, length-take, length-drop}
use Rattle.lists.specs.Part.{part, put}
use Rattle.lists.proofs.Parts.{part_at, part_length, put_before, put_within, put_behind}
use Rattle.planar.specs.Cells.{cell}
use Rattle.planar.proofs.Cells.{by_parts}
use Rattle.standard.specs.Numbers.{zero, nought}
use Rattle.ps_decorr_allpass.specs.Memory.{silenced_from}
use Rattle.ps_decorr_allpass.proofs.Silenced.{Silenced, silenced_whole, silenced_length, silenced_cleared, silenced_kept}

module _ (owner : ℕ → ℕ) (k : ℕ) (xs : List Float) (apart at : ℕ) (room : at + apart < length xs) where
  pub cell_cleared : k ≤ owner at → k ≤ owner (at + apart) → cell apart (silenced_from owner k xs) at ≡ nought
  cell_cleared h u = by_parts (silenced_cleared owner k xs at (omega arith) h) (silenced_cleared owner k xs (at + apart) room u)

  pub cell_kept : owner at < k → owner (at + apart) < k → cell apart (silenced_from owner k xs) at ≡ cell apart xs at
  cell_kept h u = by_parts (silenced_kept owner k xs at (omega arith) h) (silenced_kept owner k xs (at + apart) room u)

-- the list once a part of it is back, in which the numbers from j on by some count are 0
module _ (a n : ℕ) (xs : List Float) (count : ℕ → ℕ) (j : ℕ) (room : a + n ≤ length xs) where
  abbrev cleared : List Float
  cleared = silenced_from count j (part a n xs)

  lent : length (part a n xs) ≡ n
  lent = part_length a n xs room

  same_length : length cleared ≡ n
  same_length = silenced_length count j (part a n xs) ∙ lent

  pub back_length : length (put a n xs cleared) ≡ length xs
  back_length = simp (length-append, length-take, length-drop, same_length) (omega arith)

  within : (m : ℕ) → a ≤ m → m < a + n → get_or (put a n xs cleared) m nan ≡ get_or cleared (m - a) nan
  within m u v =
      let same : m ≡ a + (m - a) = omega arith in
      ap (λ (i : ℕ). get_or (put a n xs cleared) i nan) same ∙ put_within a n xs cleared (omega arith) (m - a) nan (omega (arith, same_length))

  pub back_cleared : (m : ℕ) → a ≤ m → m < a + n → j ≤ count (m - a) → get_or (put a n xs cleared) m nan ≡ zero
  back_cleared m u v h = within m u v ∙ silenced_cleared count j (part a n xs) (m - a) (omega (arith, lent)) h

  pub back_kept : (m : ℕ) → (a ≤ m → m < a + n → count (m - a) < j) → get_or (put a n xs cleared) m nan ≡ get_or xs m nan
  back_kept m h = go (ltb m a) refl (ltb m (a + n)) refl
    where
      go : (s : Bool) → ltb m a ≡ s → (t : Bool) → ltb m (a + n) ≡ t → get_or (put a n xs cleared) m nan ≡ get_or xs m nan
      go true e t f = put_before a n xs cleared (omega arith) m nan (ltb-true m a e)
      go false e true f =
          let u : a ≤ m = ltb-false m a e in
          let v : m < a + n = ltb-true m (a + n) f in
          let same : a + (m - a) ≡ m = omega arith in
          within m u v ∙ silenced_kept count j (part a n xs) (m - a) (omega (arith, lent)) (h u v) ∙ part_at a n xs (m - a) nan (omega arith) ∙ ap (λ (i : ℕ). get_or xs i nan) same
      go false e false f = put_behind a n xs cleared (omega arith) m nan same_length (ltb-false m (a + n) f)

-- a part that is filled with a number that is 0
pub filled : (a n : ℕ) (xs ys : List Float) (v : Float) → v ≡ zero → ys ≡ replicate (length (part a n xs)) v → ys ≡ silenced_from (λ m. m) 0 (part a n xs)
filled a n xs ys v z e = e ∙ silenced_whole (λ m. m) (part a n xs) v z

-- a run is cleared, of which each number is of a channel that is to be; those before it are not
module _ {owner : ℕ → ℕ} {k n : ℕ} {xs l : List Float} (s : Silenced owner k xs n l) (a w : ℕ) where
  pub silenced_run : n ≤ a → a + w ≤ length l → ((m : ℕ) → n ≤ m → m < a → owner m < k) → ((m : ℕ) → a ≤ m → m < a + w → k ≤ owner m)
      → (ys : List Float) → ys ≡ silenced_from (λ m. m) 0 (part a w l) → Silenced owner k xs (a + w) (put a w l ys)
  silenced_run from room other mine ys is =
      subst (λ (ys : List Float). Silenced owner k xs (a + w) (put a w l ys)) (sym is)
      (record {
        long = back_length a w l (λ m. m) 0 room ∙ s.long;
        cleared = λ m u h. go m u h (ltb m n) refl (ltb m a) refl;
        kept = λ m u h. back_kept a w l (λ m. m) 0 room m (λ b d. absurd (omega (arith, mine m b d, h))) ∙ s.kept m u h;
      })
    where
      go : (m : ℕ) → m < a + w → k ≤ owner m → (t : Bool) → ltb m n ≡ t → (r : Bool) → ltb m a ≡ r → get_or (put a w l (silenced_from (λ m. m) 0 (part a w l))) m nan ≡ zero
      go m u h true e r f =
          let b = ltb-true m n e in
          back_kept a w l (λ m. m) 0 room m (λ c d. absurd (omega (arith, from, b, c))) ∙ s.cleared m b h
      go m u h false e true f = absurd (omega (arith, other m (ltb-false m n e) (ltb-true m a f)))
      go m u h false e false f = back_cleared a w l (λ m. m) 0 room m (ltb-false m a f) u (omega arith)
