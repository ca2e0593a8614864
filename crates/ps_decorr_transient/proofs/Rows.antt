-- A loop over one row or some writes slot after slot, and a loop over the rows leaves each other row as it was. Assumes nothing.
use mathlib.Core.Path.{◌≡◌, refl, sym, ap, ◌∙◌}
use mathlib.Core.Logic.{◌≢◌}
use mathlib.Core.Bool.{Bool, true, false, cond, ◌&&◌}
use mathlib.Core.List.{List}
use Prim.Native.Nat.{ℕ, ◌+◌, ◌*◌, ◌/◌, ◌%◌, ◌<◌, ◌≤◌}
use native.Mathlib.Omega.{arith}
use borrow.Author.Tests.{ltb-true, ltb-false, eqb-true, eqb-false}
use lib.Dec.{ltb, eqb}
use lib.Ieee.{Float, nan}
use lib.ListN.{length, get_or, set, replicate, length-set, length-append, length-take, length-drop}
use Rattle.std.proofs.lemmas.List.{length-replicate, get_or-replicate}
use Rattle.lists.specs.Part.{part, put}
use Rattle.lists.proofs.Parts.{part_length, put_before, put_within, put_behind}
use Rattle.standard.specs.Numbers.{zero}
use lib.Seq.{get_or-set_same, get_or-set_other, ext_get_or}
use Rattle.lists.specs.Rows.{tabulate}
use Rattle.lists.proofs.Maps.{tabulate_length, tabulate_at}
use Rattle.ps_decorr_transient.specs.Rows.{Rowed}

-- ---- some rows
pub rowed_none : (first slots : ℕ) (new : ℕ → ℕ → Float) (l : List Float) → Rowed first first slots new l l
rowed_none first slots new l = record { long = refl; inside = λ b n u v w. absurd (omega arith); outside = λ b n w o. refl }

-- no slot yet
pub rowed_start : (first last : ℕ) (new : ℕ → ℕ → Float) (l : List Float) → Rowed first last 0 new l l
rowed_start first last new l = record { long = refl; inside = λ b n u v w. absurd (omega arith); outside = λ b n w o. refl }

-- rows behind others
pub rowed_and : {first middle last slots : ℕ} {new : ℕ → ℕ → Float} {old l next : List Float} → Rowed first middle slots new old l → Rowed middle last slots new l next
    → first ≤ middle → middle ≤ last → slots ≤ 32 → Rowed first last slots new old next
rowed_and {first} {middle} {last} {slots} {new} {old} {l} {next} r s low high few =
    record {
      long = s.long ∙ r.long;
      inside = λ b n u v w. one b n u v w (ltb b middle) refl;
      outside = λ b n w o. s.outside b n w (λ g h k. o (omega arith) h k) ∙ r.outside b n w (λ g h k. o g (omega arith) k);
    }
  where
    one : (b n : ℕ) → first ≤ b → b < last → n < slots → (t : Bool) → ltb b middle ≡ t → get_or next (32 * b + n) nan ≡ new b n
    one b n u v w true e =
        let below : b < middle = ltb-true b middle e in
        s.outside b n (omega arith) (λ g h k. omega arith) ∙ r.inside b n u below w
    one b n u v w false e = s.inside b n (ltb-false b middle e) v w

-- ---- a slot of some rows
-- slot n of the rows from `first` to before `last` is new; nothing else is
pub record Slotted (first last n : ℕ) (new : ℕ → Float) (old l : List Float) : Type 0 where
  pub long : length l ≡ length old
  pub inside : (b : ℕ) → first ≤ b → b < last → get_or l (32 * b + n) nan ≡ new b
  pub outside : (b m : ℕ) → m < 32 → (first ≤ b → b < last → m ≡ n → ⊥) → get_or l (32 * b + m) nan ≡ get_or old (32 * b + m) nan

pub slotted_none : (first n : ℕ) (new : ℕ → Float) (l : List Float) → Slotted first first n new l l
slotted_none first n new l = record { long = refl; inside = λ b u v. absurd (omega arith); outside = λ b m u o. refl }

pub slotted_more : {first b n : ℕ} {new : ℕ → Float} {old l : List Float} → Slotted first b n new old l → (last i : ℕ) (v : Float) → last ≡ b + 1 → i ≡ 32 * b + n → v ≡ new b
    → first ≤ b → n < 32 → i < length old → Slotted first last n new old (set l i v)
slotted_more {first} {b} {n} {new} {old} {l} r last i v next place e low few room =
    record {
      long = length-set l i v ∙ r.long;
      inside = λ j u w. one j u w (eqb j b) refl;
      outside = λ j m u o.
          get_or-set_other l i (32 * j + m) v nan (λ (q : 32 * j + m ≡ i). let same : j ≡ b = omega arith in o (omega arith) (omega arith) (omega arith))
          ∙ r.outside j m u (λ g h k. o g (omega arith) k);
    }
  where
    one : (j : ℕ) → first ≤ j → j < last → (t : Bool) → eqb j b ≡ t → get_or (set l i v) (32 * j + n) nan ≡ new j
    one j u w true d =
        let same : j ≡ b = eqb-true j b d in
        let here : 32 * j + n ≡ i = omega arith in
        ap (λ (p : ℕ). get_or (set l i v) p nan) here ∙ get_or-set_same l i v nan (omega (arith, r.long)) ∙ e ∙ ap new (sym same)
    one j u w false d =
        let other : j ≢ b = eqb-false j b d in
        get_or-set_other l i (32 * j + n) v nan (λ (q : 32 * j + n ≡ i). other (omega arith)) ∙ r.inside j u (omega arith)

module _ {first last n : ℕ} {new : ℕ → ℕ → Float} {old l : List Float} (r : Rowed first last n new old l) (few : n < 32) where
  -- the slot that is written next is as it was
  pub rowed_next : (b i : ℕ) → i ≡ 32 * b + n → get_or l i nan ≡ get_or old (32 * b + n) nan
  rowed_next b i place = ap (λ (j : ℕ). get_or l j nan) place ∙ r.outside b n few (λ g h k. omega arith)

  -- one slot more
  pub rowed_slot : {next : List Float} → Slotted first last n (λ b. new b n) l next → Rowed first last (n + 1) new old next
  rowed_slot {next} s =
      record {
        long = s.long ∙ r.long;
        inside = λ b m u v w. one b m u v w (eqb m n) refl;
        outside = λ b m w o. s.outside b m w (λ g h k. o g h (omega arith)) ∙ r.outside b m w (λ g h k. o g h (omega arith));
      }
    where
      one : (b m : ℕ) → first ≤ b → b < last → m < n + 1 → (t : Bool) → eqb m n ≡ t → get_or next (32 * b + m) nan ≡ new b m
      one b m u v w true e =
          let same : m ≡ n = eqb-true m n e in
          ap (λ (j : ℕ). get_or next (32 * b + j) nan) same ∙ s.inside b u v ∙ ap (new b) (sym same)
      one b m u v w false e =
          let other : m ≢ n = eqb-false m n e in
          s.outside b m (omega arith) (λ g h k. other k) ∙ r.inside b m u v (omega arith)

-- one row, slot after slot
pub rowed_more : {b n : ℕ} {new : ℕ → ℕ → Float} {old l : List Float} → Rowed b (b + 1) n new old l → (i : ℕ) (v : Float) → i ≡ 32 * b + n → v ≡ new b n → n < 32 → i < length old
    → Rowed b (b + 1) (n + 1) new old (set l i v)
rowed_more {b} {n} {new} {l = l} r i v place e few room =
    rowed_slot r few (slotted_more (slotted_none b n (λ j. new j n) l) (b + 1) i v refl place e (omega arith) few (omega (arith, r.long)))

-- the front of one row filled
pub rowed_filled : (b slots a w : ℕ) (v : Float) (l ys : List Float) → v ≡ zero → a ≡ 32 * b → w ≡ slots → slots ≤ 32 → a + w ≤ length l → ys ≡ replicate (length (part a w l)) v
    → Rowed b (b + 1) slots (λ b n. zero) l (put a w l ys)
rowed_filled b slots a w v l ys z place wide few room filled =
    record {
      long = simp (length-append, length-take, length-drop, long) (omega arith);
      inside = λ j n g h u.
          let here : 32 * j + n ≡ a + n = omega arith in
          ap (λ (i : ℕ). get_or (put a w l ys) i nan) here ∙ put_within a w l ys (omega arith) n nan (omega (arith, long))
          ∙ ap (λ (xs : List Float). get_or xs n nan) is ∙ get_or-replicate w n v nan (omega arith) ∙ z;
      outside = λ j n u o. go j n u o (ltb (32 * j + n) a) refl;
    }
  where
    is : ys ≡ replicate w v
    is = filled ∙ ap (λ (n : ℕ). replicate n v) (part_length a w l room)

    long : length ys ≡ w
    long = ap length is ∙ length-replicate w v

    go : (j n : ℕ) → n < 32 → (b ≤ j → j < b + 1 → n < slots → ⊥) → (t : Bool) → ltb (32 * j + n) a ≡ t → get_or (put a w l ys) (32 * j + n) nan ≡ get_or l (32 * j + n) nan
    go j n u o true e = put_before a w l ys (omega arith) (32 * j + n) nan (ltb-true (32 * j + n) a e)
    go j n u o false e = behind (ltb (32 * j + n) (a + w)) refl
      where
        behind : (t : Bool) → ltb (32 * j + n) (a + w) ≡ t → get_or (put a w l ys) (32 * j + n) nan ≡ get_or l (32 * j + n) nan
        behind true f =
            let from : a ≤ 32 * j + n = ltb-false (32 * j + n) a e in
            let below : 32 * j + n < a + w = ltb-true (32 * j + n) (a + w) f in
            absurd (o (omega (arith, from, below)) (omega (arith, from, below)) (omega (arith, from, below)))
        behind false f = put_behind a w l ys (omega arith) (32 * j + n) nan long (ltb-false (32 * j + n) (a + w) f)

-- two writers of the same places: the last one stays
pub rowed_then : {first last slots : ℕ} {new newer : ℕ → ℕ → Float} {old l next : List Float} → Rowed first last slots new old l → Rowed first last slots newer l next → Rowed first last slots newer old next
rowed_then r s = record { long = s.long ∙ r.long; inside = s.inside; outside = λ b n w o. s.outside b n w o ∙ r.outside b n w o }

-- the new numbers by another name
pub rowed_same : {first last slots : ℕ} {new other : ℕ → ℕ → Float} {old l : List Float} → Rowed first last slots new old l → ((b n : ℕ) → first ≤ b → b < last → n < slots → new b n ≡ other b n)
    → Rowed first last slots other old l
rowed_same r e = record { long = r.long; inside = λ b n u v w. r.inside b n u v w ∙ e b n u v w; outside = r.outside }

-- the list that the rows make
pub rowed_all : {bands slots : ℕ} {new : ℕ → ℕ → Float} {old l : List Float} → Rowed 0 bands slots new old l
    → l ≡ tabulate (λ i. cond (ltb (i / 32) bands && ltb (i % 32) slots) (new (i / 32) (i % 32)) (get_or old i nan)) (length old)
rowed_all {bands} {slots} {new} {old} {l} r =
    ext_get_or nan l (tabulate f (length old)) (r.long ∙ sym (tabulate_length f (length old))) (λ i h. place i ∙ sym (tabulate_at f (length old) i nan (rw r.long at h)))
  where
    f : ℕ → Float
    f i = cond (ltb (i / 32) bands && ltb (i % 32) slots) (new (i / 32) (i % 32)) (get_or old i nan)

    case : (i : ℕ) (s : Bool) → ltb (i / 32) bands ≡ s → (t : Bool) → ltb (i % 32) slots ≡ t
        → get_or l (32 * (i / 32) + i % 32) nan ≡ cond (s && t) (new (i / 32) (i % 32)) (get_or old (32 * (i / 32) + i % 32) nan)
    case i true e true g = r.inside (i / 32) (i % 32) (omega arith) (ltb-true (i / 32) bands e) (ltb-true (i % 32) slots g)
    case i true e false g = r.outside (i / 32) (i % 32) (omega arith) (λ p h k. let past : slots ≤ i % 32 = ltb-false (i % 32) slots g in omega arith)
    case i false e t g = r.outside (i / 32) (i % 32) (omega arith) (λ p h k. let past : bands ≤ i / 32 = ltb-false (i / 32) bands e in omega arith)

    place : (i : ℕ) → get_or l i nan ≡ f i
    place i =
        let whole : 32 * (i / 32) + i % 32 ≡ i = omega arith in
        ap (λ (j : ℕ). get_or l j nan) (sym whole) ∙ case i (ltb (i / 32) bands) refl (ltb (i % 32) slots) refl
        ∙ ap (λ (j : ℕ). cond (ltb (i / 32) bands && ltb (i % 32) slots) (new (i / 32) (i % 32)) (get_or old j nan)) whole
