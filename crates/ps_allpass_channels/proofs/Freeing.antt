-- The free lanes of the last group are silent, and all else is as it was. Assumes nothing.
use Prim.Native.Nat.{ℕ, ◌+◌, ◌-◌, ◌*◌, ◌/◌, ◌%◌, ◌<◌, ◌≤◌}
use native.Mathlib.Omega.{arith}
use mathlib.Core.Path.{◌≡◌, refl, sym, ap, ◌∙◌}
use mathlib.Core.Bool.{Bool, true, false}
use mathlib.Core.List.{List}
use borrow.Author.Tests.{ltb-true, ltb-false}
use borrow.Rule.Slice.PartMut.{same_len_mid}
use lib.Dec.{ltb}
use lib.Ieee.{Float, nan}
use lib.ListN.{length, get_or}
use Rattle.layout.specs.declared.Layout.{Layout}
use Rattle.layout.specs.declared.Layout.TheVariants.{Bands20, Bands34}
use Rattle.layout.specs.Numbers.{all_pass_of, groups_of}
use Rattle.lists.specs.Part.{part, put}
use Rattle.lists.proofs.Parts.{part_at, part_length, put_before, put_within, put_behind}
use Rattle.ps_decorr_allpass.specs.Memory.{owner_of, silenced_from}
use Rattle.ps_decorr_allpass.proofs.Silenced.{silenced_length, silenced_cleared, silenced_kept}
use Rattle.standard.specs.Numbers.{zero}

-- the lanes of the groups that have no channel are 0, and all else is as it was
pub record Freed (l : Layout) (old new : List Float) : Type 0 where
  pub long : length new ≡ length old
  pub cleared : (m : ℕ) → m < 112 * groups_of l → all_pass_of l ≤ owner_of m → get_or new m nan ≡ zero
  pub kept : (m : ℕ) → m < 112 * groups_of l → owner_of m < all_pass_of l → get_or new m nan ≡ get_or old m nan
  pub behind : (m : ℕ) → 112 * groups_of l ≤ m → get_or new m nan ≡ get_or old m nan

pub last_group : (l : Layout) → groups_of l ≡ all_pass_of l / 4 + 1
last_group Bands20 = refl
last_group Bands34 = refl

-- ---- where a number of the groups stands, of a channels
module _ (a m : ℕ) (u : m < 112 * (a / 4 + 1)) where
  free_after : a ≤ owner_of m → 112 * (a / 4) ≤ m
  free_after h = omega arith

  free_lane : a ≤ owner_of m → a % 4 ≤ (m - 112 * (a / 4)) % 4
  free_lane h = omega arith

  own_lane : 112 * (a / 4) ≤ m → owner_of m < a → (m - 112 * (a / 4)) % 4 < a % 4
  own_lane h k = omega arith

module _ (l : Layout) (delays : List Float) (long : 112 * groups_of l ≤ length delays) where
  abbrev at : ℕ
  at = 112 * (all_pass_of l / 4)

  abbrev lanes : List Float
  lanes = silenced_from (λ m. m % 4) (all_pass_of l % 4) (part at 112 delays)

  room : at + 112 ≤ length delays
  room = omega (arith, last_group l)

  lent : length (part at 112 delays) ≡ 112
  lent = part_length at 112 delays room

  size : length lanes ≡ 112
  size = silenced_length (λ m. m % 4) (all_pass_of l % 4) (part at 112 delays) ∙ lent

  within : (m : ℕ) → at ≤ m → m < at + 112 → get_or (put at 112 delays lanes) m nan ≡ get_or lanes (m - at) nan
  within m h u =
      let place : m ≡ at + (m - at) = omega arith in
      ap (λ (j : ℕ). get_or (put at 112 delays lanes) j nan) place ∙ put_within at 112 delays lanes (omega (arith, room)) (m - at) nan (omega (arith, size))

  pub freed : Freed l delays (put at 112 delays lanes)
  freed =
      record {
        long = same_len_mid at 112 delays lanes (size ∙ sym lent);
        cleared = λ m u h. clear m (rw (last_group l) at u) h;
        kept = λ m u h. keep m (rw (last_group l) at u) h (ltb m at) refl;
        behind = λ m h. put_behind at 112 delays lanes (omega (arith, room)) m nan size (omega (arith, last_group l));
      }
    where
      clear : (m : ℕ) → m < 112 * (all_pass_of l / 4 + 1) → all_pass_of l ≤ owner_of m → get_or (put at 112 delays lanes) m nan ≡ zero
      clear m u h =
          let after = free_after (all_pass_of l) m u h in
          within m after (omega arith)
          ∙ silenced_cleared (λ m. m % 4) (all_pass_of l % 4) (part at 112 delays) (m - at) (omega (arith, lent)) (free_lane (all_pass_of l) m u h)

      keep : (m : ℕ) → m < 112 * (all_pass_of l / 4 + 1) → owner_of m < all_pass_of l → (b : Bool) → ltb m at ≡ b → get_or (put at 112 delays lanes) m nan ≡ get_or delays m nan
      keep m u h true e = put_before at 112 delays lanes (omega (arith, room)) m nan (ltb-true m at e)
      keep m u h false e =
          let after = ltb-false m at e in
          let place : at + (m - at) ≡ m = omega arith in
          within m after (omega arith)
          ∙ silenced_kept (λ m. m % 4) (all_pass_of l % 4) (part at 112 delays) (m - at) (omega (arith, lent)) (own_lane (all_pass_of l) m u after h)
          ∙ part_at at 112 delays (m - at) nan (omega arith)
          ∙ ap (λ (j : ℕ). get_or delays j nan) place
