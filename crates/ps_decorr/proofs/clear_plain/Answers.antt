-- `ps_decorr::clear_plain` meets its contract: by the kind of the channel, all is cleared, or the ring from its column on and the row, or the row alone.
-- Assumes nothing.
use Prim.Native.Nat.{ℕ, ◌+◌, ◌-◌, ◌*◌, ◌/◌, ◌%◌, ◌≤◌, ◌<◌, min}
use native.Mathlib.Omega.{arith}
use mathlib.Core.Path.{◌≡◌, refl, ap, ◌∙◌}
use mathlib.Core.Bool.{Bool, true, false}
use mathlib.Core.List.{List}
use borrow.Author.Rules.{rules}
use borrow.Author.Tests.{ltb-true, ltb-false}
use lib.Dec.{ltb}
use lib.Ieee.{Float, nan}
use lib.ListN.{length, get_or}
use Rattle.layout.specs.declared.Kind.TheVariants.{AllPass, Long, Short}
use Rattle.layout.specs.declared.Layout.{Layout}
use Rattle.layout.specs.Numbers.{all_pass_of, short_delay_of}
use Rattle.layout.proofs.Bounds.{bounds}
use Rattle.lists.specs.Part.{part, put}
use Rattle.ps_decorr_allpass.specs.Memory.{silenced_from}
use Rattle.ps_decorr_allpass.proofs.Silenced.{silenced_whole, silenced_length, silenced_cleared, silenced_is}
use Rattle.standard.specs.Numbers.{zero}
use Rattle.ps_decorr.specs.State.{plain_owner}
use Rattle.ps_decorr.proofs.Ranges.{Told, told}
use Rattle.standard.proofs.Literals.{zero_is}
use Rattle.ps_decorr.proofs.Silenced.{filled, back_length, back_cleared, back_kept}
use Rattle.ps_decorr.proofs.clear_plain.Goals as goal

module _ (l : Layout) (k : ℕ) (xs : List Float) (size : length xs ≡ 394) where
  -- a list is right where each number of the ring is, and each of the row
  by_place : (ys : List Float) → length ys ≡ length xs
      → ((m : ℕ) → m < 336 → k ≤ all_pass_of l + m % 24 / 2 → get_or ys m nan ≡ zero)
      → ((m : ℕ) → 336 ≤ m → m < 394 → k ≤ short_delay_of l + (m - 336) / 2 → get_or ys m nan ≡ zero)
      → ((m : ℕ) → m < 336 → all_pass_of l + m % 24 / 2 < k → get_or ys m nan ≡ get_or xs m nan)
      → ((m : ℕ) → 336 ≤ m → m < 394 → short_delay_of l + (m - 336) / 2 < k → get_or ys m nan ≡ get_or xs m nan)
      → ys ≡ silenced_from (plain_owner l) k xs
  by_place ys long ring row ring-kept row_kept =
      silenced_is (plain_owner l) k xs ys long (λ m u h. on m (omega arith) h (ltb m 336) refl) (λ m u h. off m (omega arith) h (ltb m 336) refl)
    where
      on : (m : ℕ) → m < 394 → k ≤ plain_owner l m → (t : Bool) → ltb m 336 ≡ t → get_or ys m nan ≡ zero
      on m u h true e = ring m (ltb-true m 336 e) (rw e at h)
      on m u h false e = row m (ltb-false m 336 e) u (rw e at h)

      off : (m : ℕ) → m < 394 → plain_owner l m < k → (t : Bool) → ltb m 336 ≡ t → get_or ys m nan ≡ get_or xs m nan
      off m u h true e = ring-kept m (ltb-true m 336 e) (rw e at h)
      off m u h false e = row_kept m (ltb-false m 336 e) u (rw e at h)

  all : Told l k AllPass → silenced_from (λ m. m) 0 xs ≡ silenced_from (plain_owner l) k xs
  all h =
      by_place _ (silenced_length _ 0 xs) (λ m u v. silenced_cleared _ 0 xs m (omega arith) (omega arith)) (λ m b u v. silenced_cleared _ 0 xs m (omega arith) (omega arith))
      (λ m u v. absurd (omega arith)) (λ m b u v. absurd (omega (arith, (bounds l).short)))

  module _ (column : ℕ) where
    abbrev ring : List Float
    ring = put 0 336 xs (silenced_from (λ m. m % 24) column (part 0 336 xs))

    ring_length : length ring ≡ length xs
    ring_length = back_length 0 336 xs _ column (omega arith)

    ring_and_row : Told l k Long → column ≡ 2 * (k - all_pass_of l) → put 336 58 ring (silenced_from (λ m. m) 0 (part 336 58 ring)) ≡ silenced_from (plain_owner l) k xs
    ring_and_row h is =
        by_place _ (back_length 336 58 ring _ 0 room ∙ ring_length)
        (λ m u v. outside m u ∙ back_cleared 0 336 xs _ column (omega arith) m (omega arith) (omega arith) (omega arith))
        (λ m b u v. back_cleared 336 58 ring _ 0 room m b (omega arith) (omega arith))
        (λ m u v. outside m u ∙ back_kept 0 336 xs _ column (omega arith) m (λ a b. omega arith))
        (λ m b u v. absurd (omega arith))
      where
        room : 336 + 58 ≤ length ring
        room = omega (arith, ring_length)

        outside : (m : ℕ) → m < 336 → get_or (put 336 58 ring (silenced_from (λ m. m) 0 (part 336 58 ring))) m nan ≡ get_or ring m nan
        outside m u = back_kept 336 58 ring _ 0 room m (λ a b. absurd (omega arith))

    row : Told l k Short → column ≡ 2 * min (k - short_delay_of l) 29 → (at w : ℕ) → at ≡ 336 + column → at + w ≡ 394
        → put at w xs (silenced_from (λ m. m) 0 (part at w xs)) ≡ silenced_from (plain_owner l) k xs
    row h is at w from end =
        by_place _ (back_length at w xs _ 0 room)
        (λ m u v. absurd (omega (arith, (bounds l).short)))
        (λ m b u v. back_cleared at w xs _ 0 room m (omega arith) (omega arith) (omega arith))
        (λ m u v. back_kept at w xs _ 0 room m (λ a b. absurd (omega arith)))
        (λ m b u v. back_kept at w xs _ 0 room m (λ a b. absurd (omega arith)))
      where
        room : at + w ≤ length xs
        room = omega arith

pub overflow_sub-k : goal.overflow_sub-k
overflow_sub-k c =
    let is_long : Told c.args.layout c.args.k Long = told c.args.layout _ c.kind.ensures c.in-Long.is in
    omega (arith, is_long, c.all_pass.ensures)

pub overflow_mul-k : goal.overflow_mul-k
overflow_mul-k c =
    let is_long : Told c.args.layout c.args.k Long = told c.args.layout _ c.kind.ensures c.in-Long.is in
    omega (arith, is_long, c.all_pass.ensures, (bounds c.args.layout).short)

pub clear_ring-requires : goal.clear_ring-requires
clear_ring-requires c =
    let is_long : Told c.args.layout c.args.k Long = told c.args.layout _ c.kind.ensures c.in-Long.is in
    (search rules, omega (arith, is_long, c.all_pass.ensures, (bounds c.args.layout).short))

pub overflow_sub-k-in-Short : goal.overflow_sub-k-in-Short
overflow_sub-k-in-Short c =
    let is_short : Told c.args.layout c.args.k Short = told c.args.layout _ c.kind.ensures c.in-Short.is in
    omega (arith, is_short, c.short_delay.ensures)

pub returns-in-AllPass : goal.returns-in-AllPass
returns-in-AllPass c =
    let is_chain : Told c.args.layout c.args.k AllPass = told c.args.layout _ c.kind.ensures c.in-AllPass.is in
    let xs = c.args.plain.now in
    c.fill.ensures.after (search rules) ∙ silenced_whole (λ m. m) xs _ zero_is ∙ all c.args.layout c.args.k _ c.requires is_chain

pub returns-in-Long : goal.returns-in-Long
returns-in-Long c =
    let is_long : Told c.args.layout c.args.k Long = told c.args.layout _ c.kind.ensures c.in-Long.is in
    let xs = c.args.plain.now in
    let column = 2 * (c.args.k - c.all_pass.result) in
    let whole : List Float → List Float = put 0 336 xs in
    ap (put 336 58 (whole c.clear_ring.new.ring)) (filled 336 58 (whole c.clear_ring.new.ring) _ _ zero_is (c.fill-in-Long.ensures.after (search rules)))
    ∙ ap (λ (t : List Float). put 336 58 (whole t) (silenced_from (λ m. m) 0 (part 336 58 (whole t)))) c.clear_ring.ensures
    ∙ ring_and_row c.args.layout c.args.k xs c.requires column is_long (ap (λ (n : ℕ). 2 * (c.args.k - n)) c.all_pass.ensures)

pub returns-in-Short : goal.returns-in-Short
returns-in-Short c =
    let is_short : Told c.args.layout c.args.k Short = told c.args.layout _ c.kind.ensures c.in-Short.is in
    let xs = c.args.plain.now in
    let column = 2 * c.min-column.result in
    let at = 336 + column in
    let few : column ≡ 2 * min (c.args.k - short_delay_of c.args.layout) 29 = omega (arith, c.min-column.ensures, c.short_delay.ensures) in
    ap (put at (394 - at) xs) (filled at (394 - at) xs _ _ zero_is (c.fill-in-Short.ensures.after (search rules)))
    ∙ row c.args.layout c.args.k xs c.requires column is_short few at (394 - at) refl (omega (arith, few))
