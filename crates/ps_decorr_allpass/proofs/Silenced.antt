-- Numbers set to 0 by the channels that they belong to: what stands where, and a loop that clears them in order. Assumes nothing.
use Rattle.std.proofs.Common.{◌≡◌, ℕ, ◌+◌, ◌<◌, ◌≤◌, Bool, true, false, cond, ltb, leb, List, length, get_or, set, sym, refl, ap, ◌∙◌, arith, replicate, length-set, get_or-set_other, get_or-set_same, ext_get_or, ltb-false, ltb-true, le-leb, leb-false, leb-true}
use Rattle.std.proofs.lemmas.List.{length-replicate, get_or-replicate}
use borrow.Author.Tests.{lt-leb}
use lib.Ieee.{Float, nan}
use Rattle.lists.proofs.Maps.{tabulate_length, tabulate_at}
use Rattle.standard.specs.Numbers.{zero}
use Rattle.ps_decorr_allpass.specs.Memory.{silenced_from}

module _ (owner : ℕ → ℕ) (k : ℕ) (xs : List Float) where
  abbrev new : ℕ → Float
  new m = cond (leb k (owner m)) zero (get_or xs m nan)

  pub silenced_length : length (silenced_from owner k xs) ≡ length xs
  unfolding silenced_from
  silenced_length = tabulate_length new (length xs)

  pub silenced_cleared : (m : ℕ) → m < length xs → k ≤ owner m → get_or (silenced_from owner k xs) m nan ≡ zero
  unfolding silenced_from
  silenced_cleared m u h = tabulate_at new (length xs) m nan u ∙ rw (le-leb k (owner m) h)

  pub silenced_kept : (m : ℕ) → m < length xs → owner m < k → get_or (silenced_from owner k xs) m nan ≡ get_or xs m nan
  unfolding silenced_from
  silenced_kept m u h = tabulate_at new (length xs) m nan u ∙ rw (lt-leb k (owner m) h)

  -- in a list l the numbers of those channels below place n are 0, and no other number has changed
  pub record Silenced (n : ℕ) (l : List Float) : Type 0 where
    pub long : length l ≡ length xs
    pub cleared : (m : ℕ) → m < n → k ≤ owner m → get_or l m nan ≡ zero
    pub kept : (m : ℕ) → m < length xs → owner m < k → get_or l m nan ≡ get_or xs m nan

  pub silenced_none : Silenced 0 xs
  silenced_none = record { long = refl; cleared = λ m u h. absurd (omega arith); kept = λ m u h. refl }

  pub silenced_all : (n : ℕ) (l : List Float) → Silenced n l → length xs ≤ n → l ≡ silenced_from owner k xs
  silenced_all n l s end =
      ext_get_or nan l (silenced_from owner k xs) (s.long ∙ sym silenced_length) (λ m v. go m (rw s.long at v) (leb k (owner m)) refl)
    where
      go : (m : ℕ) → m < length xs → (t : Bool) → leb k (owner m) ≡ t → get_or l m nan ≡ get_or (silenced_from owner k xs) m nan
      go m u true e = let h = leb-true k (owner m) e in s.cleared m (omega arith) h ∙ sym (silenced_cleared m u h)
      go m u false e = let h = leb-false k (owner m) e in s.kept m u h ∙ sym (silenced_kept m u h)

  pub silenced_is : (l : List Float) → length l ≡ length xs → ((m : ℕ) → m < length xs → k ≤ owner m → get_or l m nan ≡ zero)
      → ((m : ℕ) → m < length xs → owner m < k → get_or l m nan ≡ get_or xs m nan) → l ≡ silenced_from owner k xs
  silenced_is l long cleared kept = silenced_all (length xs) l (record { long = long; cleared = cleared; kept = kept }) (omega arith)

-- all of them are cleared
pub silenced_whole : (owner : ℕ → ℕ) (xs : List Float) (v : Float) → v ≡ zero → replicate (length xs) v ≡ silenced_from owner 0 xs
silenced_whole owner xs v e =
    silenced_is owner 0 xs (replicate (length xs) v) (length-replicate (length xs) v) (λ m u h. get_or-replicate (length xs) m v nan u ∙ e) (λ m u h. absurd (omega arith))

module _ {owner : ℕ → ℕ} {k n : ℕ} {xs l : List Float} (s : Silenced owner k xs n l) where
  -- places of other channels are passed
  pub silenced_past : (next : ℕ) → ((m : ℕ) → n ≤ m → m < next → owner m < k) → Silenced owner k xs next l
  silenced_past next other = record { long = s.long; cleared = λ m u h. go m u h (ltb m n) refl; kept = s.kept }
    where
      go : (m : ℕ) → m < next → k ≤ owner m → (t : Bool) → ltb m n ≡ t → get_or l m nan ≡ zero
      go m u h true e = s.cleared m (ltb-true m n e) h
      go m u h false e = absurd (omega (arith, other m (ltb-false m n e) u))

  -- one is cleared
  pub silenced_more : (v : Float) → v ≡ zero → n < length xs → k ≤ owner n → Silenced owner k xs (n + 1) (set l n v)
  silenced_more v z room mine = record { long = simp length-set s.long; cleared = λ m u h. go m u h (ltb m n) refl; kept = λ m u h. get_or-set_other l n m v nan (λ (e : m ≡ n). omega (arith, ap owner e)) ∙ s.kept m u h }
    where
      go : (m : ℕ) → m < n + 1 → k ≤ owner m → (t : Bool) → ltb m n ≡ t → get_or (set l n v) m nan ≡ zero
      go m u h true e = let b = ltb-true m n e in get_or-set_other l n m v nan (λ (e : m ≡ n). omega arith) ∙ s.cleared m b h
      go m u h false e =
          let here : n ≡ m = omega (arith, ltb-false m n e) in
          ap (λ (j : ℕ). get_or (set l n v) j nan) (sym here) ∙ get_or-set_same l n v nan (omega (arith, s.long)) ∙ z
