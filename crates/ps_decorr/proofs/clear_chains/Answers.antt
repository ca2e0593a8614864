-- `ps_decorr::clear_chains` meets its contract: of the channel's own group the lanes from its own on, then every group behind it. Assumes nothing.
use Prim.Native.Nat.{ℕ, ◌+◌, ◌-◌, ◌*◌, ◌/◌, ◌%◌, ◌<◌, ◌≤◌}
use native.Mathlib.Nat.{add-sub_cancel_left, mod-eq_of_lt}
use native.Mathlib.Omega.{arith}
use mathlib.Core.Path.{◌≡◌, refl, sym, ap, ◌∙◌}
use mathlib.Core.Bool.{Bool, true, false}
use mathlib.Core.List.{List}
use borrow.Author.Rules.{rules}
use borrow.Author.Tests.{ltb-true, ltb-false}
use lib.Dec.{ltb}
use lib.Ieee.{Float, nan}
use lib.ListN.{length, get_or}
use Rattle.lists.specs.Part.{part, put}
use Rattle.ps_decorr_allpass.specs.Memory.{owner_of, silenced_from}
use Rattle.ps_decorr_allpass.proofs.Places.{owner_is}
use Rattle.standard.specs.Numbers.{zero}
use Rattle.ps_decorr_allpass.proofs.Silenced.{silenced_length, silenced_cleared, silenced_kept, silenced_is}
use Rattle.standard.proofs.Literals.{zero_is}
use Rattle.ps_decorr.proofs.Silenced.{filled, back_length, back_cleared, back_kept}
use Rattle.ps_decorr.proofs.clear_chains.Goals as goal

-- the channels of its own group and behind it, by their lanes
module _ (k i : ℕ) where
  lane_cleared : k ≤ 4 * (k / 4) + i → k % 4 ≤ i
  lane_cleared h = omega arith

  lane_kept : 4 * (k / 4) + i < k → i < k % 4
  lane_kept h = omega arith

  before_group : k ≤ owner_of i → 112 * (k / 4) ≤ i
  before_group h = omega arith

  behind_group : owner_of i < k → i < 112 * (k / 4) + 112
  behind_group h = omega arith

module _ (xs : List Float) (k n : ℕ) (room : 112 * (k / 4) + 112 ≤ length xs) (wide : n ≡ 112) where
  abbrev at : ℕ
  at = 112 * (k / 4)

  fits : at + n ≤ length xs
  fits = omega arith

  abbrev group : List Float
  group = put at n xs (silenced_from (λ m. m % 4) (k % 4) (part at n xs))

  group_long : length group ≡ length xs
  group_long = back_length at n xs (λ m. m % 4) (k % 4) fits

  abbrev rest : ℕ
  rest = length group - (at + 112)

  last : at + 112 + rest ≤ length group
  last = omega (arith, group_long)

  abbrev behind : List Float
  behind = put (at + 112) rest group (silenced_from (λ m. m) 0 (part (at + 112) rest group))

  chains : behind ≡ silenced_from owner_of k xs
  chains =
      silenced_is owner_of k xs behind (back_length (at + 112) rest group (λ m. m) 0 last ∙ group_long) (λ m u h. cleared m u h (ltb m (at + 112)) refl)
      (λ m u h.
      let v = behind_group k m h in
      left m u v ∙ back_kept at n xs (λ i. i % 4) (k % 4) fits m (λ a b. lane_kept k ((m - at) % 4) (rw (lane m a v) at h)))
    where
      left : (m : ℕ) → m < length xs → m < at + 112 → get_or behind m nan ≡ get_or group m nan
      left m u v = back_kept (at + 112) rest group (λ m. m) 0 last m (λ a b. absurd (omega arith))

      lane : (m : ℕ) → at ≤ m → m < at + 112 → owner_of m ≡ 4 * (k / 4) + (m - at) % 4
      lane m a b =
          let same : m ≡ at + (m - at) = omega arith in
          ap owner_of same ∙ owner_is (k / 4) (m - at) (omega arith)

      cleared : (m : ℕ) → m < length xs → k ≤ owner_of m → (t : Bool) → ltb m (at + 112) ≡ t → get_or behind m nan ≡ zero
      cleared m u h true e =
          let v = ltb-true m (at + 112) e in
          let a = before_group k m h in
          left m u v ∙ back_cleared at n xs (λ i. i % 4) (k % 4) fits m a (omega arith) (lane_cleared k ((m - at) % 4) (rw (lane m a v) at h))
      cleared m u h false e = back_cleared (at + 112) rest group (λ m. m) 0 last m (ltb-false m (at + 112) e) (omega (arith, group_long)) (omega arith)

pub returns : goal.returns
returns c =
    let at = 112 * (c.args.k / 4) in
    let lanes : List Float → List Float = put at (at + 112 - at) c.args.delays.now in
    let far : List Float → ℕ = λ g. length g - (at + 112) in
    let own : List Float = lanes c.silence.new.xs in
    ap (put (at + 112) (far own) own) (filled (at + 112) (far own) own _ _ zero_is (c.fill.ensures.after (search rules)))
    ∙ ap (λ (t : List Float). put (at + 112) (far (lanes t)) (lanes t) (silenced_from (λ m. m) 0 (part (at + 112) (far (lanes t)) (lanes t)))) c.silence.ensures
    ∙ chains _ c.args.k _ c.requires (add-sub_cancel_left at 112)
