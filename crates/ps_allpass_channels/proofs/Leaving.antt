-- A row whose bands are written one after the other, what the bands are, and the slot that a written row makes of a side. Assumes nothing.
use mathlib.Core.Path.{◌≡◌, refl, sym, ap, ◌∙◌}
use mathlib.Core.Logic.{◌⊎◌, inl, inr}
use mathlib.Core.Bool.{Bool, true, false}
use mathlib.Core.List.{List}
use Prim.Native.Nat.{ℕ, suc, ◌+◌, ◌-◌, ◌*◌, ◌/◌, ◌%◌, ◌<◌, ◌≤◌}
use native.Mathlib.Nat.{eq-or-lt_of_le}
use native.Mathlib.Omega.{arith}
use borrow.Author.Tests.{ltb-true, ltb-false, lt-ltb, le-ltb}
use borrow.Rule.Slice.PartMut.{same_len_mid}
use lib.Dec.{ltb}
use lib.Ieee.{Float, nan}
use lib.ListN.{length, get_or}
use Rattle.complex.specs.declared.Complex.{Complex}
use Rattle.layout.specs.declared.Layout.{Layout}
use Rattle.layout.specs.Numbers.{split_of, unsplit_from_of, first_channel_of}
use Rattle.lists.specs.Part.{part, put}
use Rattle.lists.proofs.Parts.{part_length, part_at, put_before, put_within, put_behind}
use Rattle.planar.specs.Cells.{cell, stored}
use Rattle.planar.specs.Frame.{qmf_at}
use Rattle.planar.proofs.Cells.{by_parts, stored_length}
use Rattle.planar.proofs.Pairs.{pair_same, pair_other}
use Rattle.ps_allpass_groups.specs.Desk as desk
use Rattle.standard.specs.Hybrid.{added_to, synthesised}
use Rattle.ps_allpass_channels.specs.Desks.{desk_of, standing, Rowed, Left}

-- ---- bands of a row, one after the other

pub rowed_none : (value : ℕ → Complex) (from : ℕ) (row : List Float) → Rowed value from from row row
rowed_none value from row = record { long = refl; below = λ q u. refl; each = λ q u v. absurd (omega arith); above = λ q u. refl }

-- the next band is stored
pub rowed_more : (value : ℕ → Complex) (from to : ℕ) (old new : List Float) (v : Complex) → Rowed value from to old new → v ≡ value to → from ≤ to
    → 2 * to + 1 < length old → Rowed value from (to + 1) old (stored 1 new (2 * to) v)
rowed_more value from to old new v r is begun room =
    record {
      long = stored_length 1 new (2 * to) v ∙ r.long;
      below = λ q u. other q (λ (e : q ≡ to). omega arith) ∙ r.below q u;
      each = λ q u w. one q u (eq-or-lt_of_le (at_most q w));
      above = λ q u. other q (λ (e : q ≡ to). omega arith) ∙ r.above q (omega arith);
    }
  where
    at_most : (q : ℕ) → q < to + 1 → q ≤ to
    at_most q w = omega arith

    other : (q : ℕ) → (q ≡ to → ⊥) → cell 1 (stored 1 new (2 * to) v) (2 * q) ≡ cell 1 new (2 * q)
    other q n =
        pair_other new (2 * to) v (2 * q) (λ (e : 2 * q ≡ 2 * to). n (omega arith)) (λ (e : 2 * q ≡ 2 * to + 1). omega arith)
        (λ (e : 2 * q + 1 ≡ 2 * to). omega arith)

    one : (q : ℕ) → from ≤ q → (q ≡ to) ⊎ (q < to) → cell 1 (stored 1 new (2 * to) v) (2 * q) ≡ value q
    one q u (inl e) = rw e (pair_same new (2 * to) v (omega (arith, r.long)) ∙ is)
    one q u (inr l) = other q (λ (e : q ≡ to). omega arith) ∙ r.each q u l

-- bands behind those that are there already
pub rowed_then : (f g : ℕ → Complex) (from mid to : ℕ) (old row new : List Float) → Rowed f from mid old row → Rowed g mid to row new → from ≤ mid → mid ≤ to
    → ((q : ℕ) → mid ≤ q → q < to → g q ≡ f q) → Rowed f from to old new
rowed_then f g from mid to old row new a b least most same =
    record {
      long = b.long ∙ a.long;
      below = λ q u. b.below q (omega arith) ∙ a.below q u;
      each = λ q u v. at q u v (ltb q mid) refl;
      above = λ q u. b.above q u ∙ a.above q (omega arith);
    }
  where
    at : (q : ℕ) → from ≤ q → q < to → (t : Bool) → ltb q mid ≡ t → cell 1 new (2 * q) ≡ f q
    at q u v true e = let under = ltb-true q mid e in b.below q under ∙ a.each q u under
    at q u v false e = let over = ltb-false q mid e in b.each q over v ∙ same q over v

-- one band behind them
pub rowed_next : (value : ℕ → Complex) (from to next : ℕ) (old row new : List Float) (v : Complex) → next ≡ to + 1 → Rowed value from to old row
    → Rowed (λ _. v) to (to + 1) row new → v ≡ value to → from ≤ to → Rowed value from next old new
rowed_next value from to next old row new v e a b is begun =
    rw e
    (rowed_then value (λ _. v) from to (to + 1) old row new a b begun (omega arith)
    (λ q u w. let here : to ≡ q = omega arith in is ∙ ap value here))

-- ---- what the bands are

module _ (l : Layout) (y : ℕ → Complex) (q : ℕ) where
  pub band_split : q < split_of l → added_to y (first_channel_of l q) (first_channel_of l (suc q) - first_channel_of l q) ≡ synthesised l y q
  unfolding synthesised
  band_split u = rw (lt-ltb q (split_of l) u)

  pub band_unsplit : split_of l ≤ q → y (q + unsplit_from_of l - split_of l) ≡ synthesised l y q
  unfolding synthesised
  band_unsplit u = rw (le-ltb q (split_of l) u)

-- ---- a channel's sides, read where the code reads them

module _ (desks : List Float) where
  on_desk : (place k : ℕ) → place ≤ 128 → cell 4 (part (136 * (k / 4)) 136 desks) (place + k % 4) ≡ standing desks place k
  on_desk place k few =
      let here : 136 * (k / 4) + (place + k % 4) ≡ 136 * (k / 4) + k % 4 + place = omega arith in
      let next : 136 * (k / 4) + (place + k % 4 + 4) ≡ 136 * (k / 4) + k % 4 + place + 4 = omega arith in
      by_parts
      (part_at (136 * (k / 4)) 136 desks (place + k % 4) nan (omega arith) ∙ ap (λ (i : ℕ). get_or desks i nan) here)
      (part_at (136 * (k / 4)) 136 desks (place + k % 4 + 4) nan (omega arith) ∙ ap (λ (i : ℕ). get_or desks i nan) next)

  pub left_standing : standing desks 120 ≡ desk_of desk.left_on desks
  unfolding desk_of desk.left_on
  left_standing = λ i k. sym (on_desk 120 k (omega arith)) i

  pub right_standing : standing desks 128 ≡ desk_of desk.right_on desks
  unfolding desk_of desk.right_on
  right_standing = λ i k. sym (on_desk 128 k (omega arith)) i

-- ---- the slot's row comes back

module _ (l : Layout) (channel : ℕ → Complex) (n : ℕ) (old row : List Float) (room : 128 * n + 128 ≤ length old)
    (r : Rowed (synthesised l channel) 0 23 (part (128 * n) 128 old) row) where
  lent : length (part (128 * n) 128 old) ≡ 128
  lent = part_length (128 * n) 128 old room

  wide : length row ≡ 128
  wide = r.long ∙ lent

  abbrev new : List Float
  new = put (128 * n) 128 old row

  within : (q : ℕ) → q < 64 → qmf_at new n q ≡ cell 1 row (2 * q)
  within q u =
      let next : 128 * n + 2 * q + 1 ≡ 128 * n + (2 * q + 1) = omega arith in
      by_parts (put_within (128 * n) 128 old row (omega arith) (2 * q) nan (omega (arith, wide)))
      (ap (λ (i : ℕ). get_or new i nan) next ∙ put_within (128 * n) 128 old row (omega arith) (2 * q + 1) nan (omega (arith, wide)))

  was : (q : ℕ) → q < 64 → cell 1 (part (128 * n) 128 old) (2 * q) ≡ qmf_at old n q
  was q u =
      let next : 128 * n + (2 * q + 1) ≡ 128 * n + 2 * q + 1 = omega arith in
      by_parts (part_at (128 * n) 128 old (2 * q) nan (omega arith))
      (part_at (128 * n) 128 old (2 * q + 1) nan (omega arith) ∙ ap (λ (i : ℕ). get_or old i nan) next)

  row_back : Left l channel n old new
  row_back =
      record {
        long = same_len_mid (128 * n) 128 old row r.long;
        inside = λ q u. within q (omega arith) ∙ r.each q (omega arith) u;
        above = λ q u v. within q v ∙ r.above q u ∙ was q v;
        before = λ m q u v.
            by_parts (put_before (128 * n) 128 old row (omega arith) (128 * m + 2 * q) nan (omega arith))
            (put_before (128 * n) 128 old row (omega arith) (128 * m + 2 * q + 1) nan (omega arith));
        behind = λ m q u v.
            by_parts (put_behind (128 * n) 128 old row (omega arith) (128 * m + 2 * q) nan wide (omega arith))
            (put_behind (128 * n) 128 old row (omega arith) (128 * m + 2 * q + 1) nan wide (omega arith));
      }

-- the same with the width that the code lends, and the channels under another name
pub row_left : (l : Layout) (stands channel : ℕ → Complex) → stands ≡ channel → (n w : ℕ) (old row : List Float) → w ≡ 128 → 128 * n + 128 ≤ length old
    → Rowed (synthesised l stands) 0 23 (part (128 * n) w old) row → Left l channel n old (put (128 * n) w old row)
row_left l stands channel e n w old row f room r = rw f (row_back l channel n old row room (rw (e, f) at r))
