-- A loop over slots that lends each slot's run of QMF bands and takes it back mixed: the bands before and behind the run are as they were. Assumes nothing.
use mathlib.Core.Path.{◌≡◌, refl, sym, ap, ap₂, ◌∙◌}
use mathlib.Core.Logic.{◌⊎◌, inl, inr}
use mathlib.Core.Bool.{Bool, true, false}
use mathlib.Core.List.{List}
use Prim.Native.Nat.{ℕ, ◌+◌, ◌-◌, ◌*◌, ◌%◌, ◌<◌, ◌≤◌}
use native.Mathlib.Nat.{add-sub_cancel_left, eq-or-lt_of_le}
use native.Mathlib.Omega.{arith}
use borrow.Author.Tests.{ltb-true, ltb-false, lt-ltb, le-ltb}
use borrow.Rule.Slice.PartMut.{same_len_mid}
use lib.Dec.{ltb}
use lib.Ieee.{Float, nan}
use lib.ListN.{length, get_or}
use Rattle.complex.specs.declared.Complex.{Complex}
use Rattle.complex.specs.Operations.{scaled}
use Rattle.lists.specs.Part.{part, put}
use Rattle.lists.proofs.Parts.{part_length, part_at, put_before, put_within, put_behind}
use Rattle.planar.specs.Cells.{cell}
use Rattle.planar.specs.Frame.{qmf_at, matrix_at}
use Rattle.planar.proofs.Cells.{by_parts}
use Rattle.standard.specs.declared.Matrix.{Matrix}
use Rattle.ps_delay_channels.specs.declared.rows.Delay.{Delay}
use Rattle.ps_delay_channels.specs.Spans.{Before, Banded, earlier, mixed_at}
use Rattle.ps_delay_channels.proofs.Slots.{Weighed}

-- ---- a part that is lent is as long as its end says
pub width : (a w : ℕ) → a + w - a ≡ w
width a w = add-sub_cancel_left a w

pub lent_long : (a k w : ℕ) (xs : List Float) → w ≡ k → a + k ≤ length xs → length (part a w xs) ≡ k
lent_long a k w xs e room = rw e (part_length a k xs room)

-- a pair of it
pub lent_pair : (a k : ℕ) (xs : List Float) (i : ℕ) → i + 1 < k → cell 1 (part a k xs) i ≡ cell 1 xs (a + i)
lent_pair a k xs i u =
    let next : a + (i + 1) ≡ a + i + 1 = omega arith in
    by_parts (part_at a k xs i nan (omega arith)) (part_at a k xs (i + 1) nan u ∙ ap (λ (j : ℕ). get_or xs j nan) next)

-- ---- pairs of a list to which a part came back
module _ (a k : ℕ) (xs ys : List Float) (inside : a ≤ length xs) (row : length ys ≡ k) where
  pub pair_before : (i : ℕ) → i + 1 < a → cell 1 (put a k xs ys) i ≡ cell 1 xs i
  pair_before i u = by_parts (put_before a k xs ys inside i nan (omega arith)) (put_before a k xs ys inside (i + 1) nan u)

  pub pair_behind : (i : ℕ) → a + k ≤ i → cell 1 (put a k xs ys) i ≡ cell 1 xs i
  pair_behind i u = by_parts (put_behind a k xs ys inside i nan row u) (put_behind a k xs ys inside (i + 1) nan row (omega arith))

  pub pair_within : (i j : ℕ) → j ≡ a + i → i + 1 < k → cell 1 (put a k xs ys) j ≡ cell 1 ys i
  pair_within i j e u =
      let next : a + i + 1 ≡ a + (i + 1) = omega arith in
      rw e
      (by_parts (put_within a k xs ys inside i nan (omega arith))
      (ap (λ (m : ℕ). get_or (put a k xs ys) m nan) next ∙ put_within a k xs ys inside (i + 1) nan (omega arith)))

-- ---- the loop: the run of bands is f's in the first `done` slots, and the other bands of all slots are as they were
pub record Banding (from count slots : ℕ) (f : ℕ → ℕ → Complex) (old new : List Float) (done : ℕ) : Type 0 where
  pub long : length new ≡ length old
  pub inside : (n q : ℕ) → n < done → from ≤ q → q < from + count → qmf_at new n q ≡ f n q
  pub below : (n q : ℕ) → n < slots → q < from → qmf_at new n q ≡ qmf_at old n q
  pub above : (n q : ℕ) → n < slots → from + count ≤ q → q < 64 → qmf_at new n q ≡ qmf_at old n q

pub banding_none : (from count slots : ℕ) (f : ℕ → ℕ → Complex) (xs : List Float) → Banding from count slots f xs xs 0
banding_none from count slots f xs =
    record { long = refl; inside = λ n q a b d. absurd (omega arith); below = λ n q a b. refl; above = λ n q a b d. refl }

pub banding_all : {from count slots done : ℕ} {f : ℕ → ℕ → Complex} {old new : List Float} → Banding from count slots f old new done → done ≡ slots
    → Banded from count slots f old new
banding_all r all = record { long = r.long; inside = rw all at r.inside; below = r.below; above = r.above }

module _ {from count slots n : ℕ} {f : ℕ → ℕ → Complex} {old mid : List Float} (r : Banding from count slots f old mid n)
    (narrow : from + count ≤ 64) (more : n < slots) (whole : length old ≡ 128 * slots) (ys : List Float) (row : length ys ≡ 2 * count) where
  within : 128 * n + 2 * from + 2 * count ≤ length mid
  within = omega (arith, r.long)

  abbrev new : List Float
  new = put (128 * n + 2 * from) (2 * count) mid ys

  before : (i : ℕ) → i + 1 < 128 * n + 2 * from → cell 1 new i ≡ cell 1 mid i
  before i u = pair_before (128 * n + 2 * from) (2 * count) mid ys (omega (arith, within)) row i u

  behind : (i : ℕ) → 128 * n + 2 * from + 2 * count ≤ i → cell 1 new i ≡ cell 1 mid i
  behind i u = pair_behind (128 * n + 2 * from) (2 * count) mid ys (omega (arith, within)) row i u

  -- one slot more
  banding_more : ((q : ℕ) → from ≤ q → q < from + count → cell 1 ys (2 * (q - from)) ≡ f n q) → Banding from count slots f old new (n + 1)
  banding_more is =
      record {
        long = same_len_mid (128 * n + 2 * from) (2 * count) mid ys (row ∙ sym (part_length (128 * n + 2 * from) (2 * count) mid within)) ∙ r.long;
        inside = λ m q u a b. here m q a b (eq-or-lt_of_le (at_most m u));
        below = λ m q u a. under m q a (ltb n m) refl ∙ r.below m q u a;
        above = λ m q u a b. over m q a b (ltb m n) refl ∙ r.above m q u a b;
      }
    where
      at_most : (m : ℕ) → m < n + 1 → m ≤ n
      at_most m u = omega arith

      here : (m q : ℕ) → from ≤ q → q < from + count → (m ≡ n) ⊎ (m < n) → qmf_at new m q ≡ f m q
      here m q a b (inl e) =
          rw e
          (pair_within (128 * n + 2 * from) (2 * count) mid ys (omega (arith, within)) row (2 * (q - from)) (128 * n + 2 * q) (omega arith) (omega arith)
          ∙ is q a b)
      here m q a b (inr l) = before (128 * m + 2 * q) (omega arith) ∙ r.inside m q l a b

      under : (m q : ℕ) → q < from → (t : Bool) → ltb n m ≡ t → qmf_at new m q ≡ qmf_at mid m q
      under m q a true e = behind (128 * m + 2 * q) (omega (arith, ltb-true n m e))
      under m q a false e = before (128 * m + 2 * q) (omega (arith, ltb-false n m e))

      over : (m q : ℕ) → from + count ≤ q → q < 64 → (t : Bool) → ltb m n ≡ t → qmf_at new m q ≡ qmf_at mid m q
      over m q a b true e = before (128 * m + 2 * q) (omega (arith, ltb-true m n e))
      over m q a b false e = behind (128 * m + 2 * q) (omega (arith, ltb-false m n e))

-- ---- what came before, in rows or in the input
module _ (d : Delay) (before input : List Float) (n q place : ℕ) where
  pub earlier_kept : n < d.slots → place ≡ 24 * ((d.position + n) % 14) + 2 * (q - d.first) → cell 1 before place ≡ earlier d before input n q
  unfolding earlier
  earlier_kept u e = rw (lt-ltb n d.slots u) (ap (cell 1 before) e)

  pub earlier_came : d.slots ≤ n → place ≡ 128 * (n - d.slots) + 2 * q → cell 1 input place ≡ earlier d before input n q
  unfolding earlier
  earlier_came u e = rw (le-ltb n d.slots u) (ap (cell 1 input) e)

-- the rows have room for slot n's run
pub row_room : {d : Delay} {from count : ℕ} {before : List Float} (n : ℕ) → Before d from count before → n < d.slots
    → 24 * ((d.position + n) % 14) + 2 * (from - d.first) + 2 * count ≤ length before
row_room n b u = omega (arith, b.behind, b.within, b.room n u)

-- ---- a slot's run that was lent and is weighed
module _ (side : Bool → Matrix → Complex → Complex → Complex) (runs gains input before : List Float) (d : Delay) (from count slots : ℕ) where
  abbrev pub mixing : ℕ → ℕ → Complex
  mixing = mixed_at d before input side (matrix_at runs) (λ n. get_or gains n nan)

  -- a band of the run, whichever list its delayed sample is lent from
  mixed_lent : (n v then : ℕ) (source ys : List Float) → v ≡ 2 * count
      → Weighed side runs n (get_or gains n nan) count (part (128 * n + 2 * from) (2 * count) input) (part then v source) ys
      → (q : ℕ) → from ≤ q → q < from + count → cell 1 source (then + 2 * (q - from)) ≡ earlier d before input n q
      → cell 1 ys (2 * (q - from)) ≡ mixing n q
  unfolding mixed_at
  mixed_lent n v then source ys e weighed q a b is =
      let here : 128 * n + 2 * from + 2 * (q - from) ≡ 128 * n + 2 * q = omega arith in
      weighed (q - from) (omega arith)
      ∙ ap₂ (λ (x z : Complex). side false (matrix_at runs n) x (scaled z (get_or gains n nan)))
      (lent_pair (128 * n + 2 * from) (2 * count) input (2 * (q - from)) (omega arith) ∙ ap (cell 1 input) here)
      (rw e (lent_pair then (2 * count) source (2 * (q - from)) (omega arith)) ∙ is)

  module _ {n : ℕ} {old mid : List Float} (r : Banding from count slots mixing old mid n) (rows : Before d from count before)
      (whole : length old ≡ 128 * slots) (more : n < slots) (w v : ℕ) (e : w ≡ 2 * count) (f : v ≡ 2 * count) (ys : List Float)
      (row_long_lem : length ys ≡ length (part (128 * n + 2 * from) w mid)) where
    narrow : from + count ≤ 64
    narrow = omega (arith, rows.within, rows.bands)

    as_wide : length ys ≡ 2 * count
    as_wide = row_long_lem ∙ lent_long (128 * n + 2 * from) (2 * count) w mid e (omega (arith, r.long, narrow))

    -- a slot whose delayed run stands in the rows of the memory
    pub banding_kept : n < d.slots
        → Weighed side runs n (get_or gains n nan) count (part (128 * n + 2 * from) w input) (part (24 * ((d.position + n) % 14) + 2 * (from - d.first)) v before) ys
        → Banding from count slots mixing old (put (128 * n + 2 * from) w mid ys) (n + 1)
    banding_kept early weighed =
        let then = 24 * ((d.position + n) % 14) + 2 * (from - d.first) in
        rw e
        (banding_more r narrow more whole ys as_wide
        (λ q a b. mixed_lent n v then before ys f (rw e at weighed) q a b
        (earlier_kept d before input n q (then + 2 * (q - from)) early (omega (arith, rows.behind)))))

    -- and one whose delayed run came in the frame
    pub banding_came : d.slots ≤ n
        → Weighed side runs n (get_or gains n nan) count (part (128 * n + 2 * from) w input) (part (128 * (n - d.slots) + 2 * from) v input) ys
        → Banding from count slots mixing old (put (128 * n + 2 * from) w mid ys) (n + 1)
    banding_came late weighed =
        rw e
        (banding_more r narrow more whole ys as_wide
        (λ q a b. mixed_lent n v (128 * (n - d.slots) + 2 * from) input ys f (rw e at weighed) q a b
        (earlier_came d before input n q (128 * (n - d.slots) + 2 * from + 2 * (q - from)) late (omega arith))))
