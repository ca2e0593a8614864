-- What a stage writes of the hybrid samples: one channel's run that is lent and comes back, stages after one another, and all of them as rows.
-- Assumes nothing.
use mathlib.Core.Path.{◌≡◌, refl, sym, ap, ap₂, ◌∙◌}
use mathlib.Core.Bool.{Bool, true, false, cond}
use mathlib.Core.List.{List, ◌++◌}
use Prim.Native.Nat.{ℕ, ◌+◌, ◌-◌, ◌*◌, ◌<◌, ◌≤◌}
use native.Mathlib.Nat.{add-sub_cancel_left, add-sub_of_le, mul_comm}
use native.Mathlib.Omega.{arith}
use borrow.Author.Tests.{ltb-true, ltb-false, lt-ltb, le-ltb}
use borrow.Rule.Slice.PartMut.{same_len_mid}
use lib.Dec.{ltb}
use lib.Ieee.{Float}
use lib.ListN.{length, take, drop, length-append, take-append-drop}
use lib.Seq.{drop_at, drop-drop, length-take-le}
use Rattle.complex.specs.declared.Complex.{Complex}
use Rattle.complex.specs.Operations.{sum}
use Rattle.lists.specs.Part.{part, put}
use Rattle.lists.specs.Rows.{rows}
use Rattle.lists.proofs.Parts.{part_length, part_put, part_put_before, part_put_behind, put_line}
use Rattle.lists.proofs.Rows.{rows_same, rows_cut}
use Rattle.planar.specs.Cells.{cell, planar, overwritten}
use Rattle.planar.specs.Frame.{sample_at}
use Rattle.planar.proofs.Cells.{planar_is, planar_at, planar_length}
use Rattle.ps_hybrid_analysis.specs.Stages.{Written}

-- a part that is lent is as long as its end says
pub width : (a w : ℕ) → a + w - a ≡ w
width a w = add-sub_cancel_left a w

pub lent_long : (c w : ℕ) (xs : List Float) → w ≡ 64 → 64 * c + 64 ≤ length xs → length (part (64 * c) w xs) ≡ 64
lent_long c w xs e room = rw e (part_length (64 * c) 64 xs room)

pub written_none : (slots from : ℕ) (h : ℕ → ℕ → Complex) (xs : List Float) → Written slots from from h xs xs
written_none slots from h xs =
    record { long = refl; inside = λ k n u v w. absurd (omega arith); below = λ k n u v. refl; behind = λ k n u v. refl; rest = refl }

-- what lies behind a part that is back, and behind what lies behind
behind_put : (a k : ℕ) (xs ys : List Float) → a ≤ length xs → length ys ≡ k → drop (a + k) (put a k xs ys) ≡ drop (a + k) xs
behind_put a k xs ys inside h =
    ap (drop (a + k)) (put_line a k xs ys) ∙ drop_at (take a xs ++ ys) (drop (a + k) xs) (a + k) (rw (length-append, length-take-le a xs inside, h))

pub drop_more : (a b : ℕ) (xs ys : List Float) → drop a xs ≡ drop a ys → a ≤ b → drop b xs ≡ drop b ys
drop_more a b xs ys e h =
    let on : (zs : List Float) → drop b zs ≡ drop (b - a) (drop a zs) = λ zs. ap (λ (n : ℕ). drop n zs) (sym (add-sub_of_le h)) ∙ sym (drop-drop (b - a) a zs) in
    on xs ∙ ap (drop (b - a)) e ∙ sym (on ys)

-- ---- one channel's run
module _ (slots c : ℕ) (h : ℕ → ℕ → Complex) (old ys : List Float) (room : 64 * c + 64 ≤ length old) (few : slots ≤ 32)
    (is : ys ≡ planar 32 (overwritten slots (h c) (cell 32 (part (64 * c) 64 old)))) where
  row : length ys ≡ 64
  row = ap length is ∙ planar_length 32 (overwritten slots (h c) (cell 32 (part (64 * c) 64 old)))

  here : (k n : ℕ) → k ≡ c → n < 32 → sample_at (put (64 * c) 64 old ys) n k ≡ overwritten slots (h k) (λ i. sample_at old i k) n
  here k n e u =
      rw e
      (ap (λ (t : List Float). cell 32 t n) (part_put (64 * c) 64 old ys (omega arith) row ∙ is)
      ∙ planar_at 32 (overwritten slots (h c) (cell 32 (part (64 * c) 64 old))) n u)

  before : (k : ℕ) → k < c → part (64 * k) 64 (put (64 * c) 64 old ys) ≡ part (64 * k) 64 old
  before k u = part_put_before (64 * c) 64 old ys (omega arith) (64 * k) 64 (omega arith)

  after : (k : ℕ) → c < k → part (64 * k) 64 (put (64 * c) 64 old ys) ≡ part (64 * k) 64 old
  after k u = part_put_behind (64 * c) 64 old ys (omega arith) (64 * k) 64 row (omega arith)

  pub written_row : Written slots c (c + 1) h old (put (64 * c) 64 old ys)
  written_row =
      record {
        long = same_len_mid (64 * c) 64 old ys (row ∙ sym (part_length (64 * c) 64 old room));
        inside = λ k n u v w. here k n (omega arith) (omega arith) ∙ rw (lt-ltb n slots w);
        below = λ k n u v. ap (λ (t : List Float). cell 32 t n) (before k u);
        behind = λ k n u v. past k n u v (ltb k c) (ltb c k) refl refl;
        rest = rw (← next) (behind_put (64 * c) 64 old ys (omega arith) row);
      }
    where
      next : 64 * c + 64 ≡ 64 * (c + 1)
      next = omega arith

      past : (k n : ℕ) → slots ≤ n → n < 32 → (s t : Bool) → ltb k c ≡ s → ltb c k ≡ t → sample_at (put (64 * c) 64 old ys) n k ≡ sample_at old n k
      past k n v w true t e f = ap (λ (t : List Float). cell 32 t n) (before k (ltb-true k c e))
      past k n v w false true e f = ap (λ (t : List Float). cell 32 t n) (after k (ltb-true c k f))
      past k n v w false false e f =
          let same : k ≡ c = omega (arith, ltb-false k c e, ltb-false c k f) in
          here k n same w ∙ rw (le-ltb n slots v)

-- the run as it is lent and comes back
pub written_lent : (slots c w : ℕ) (h : ℕ → ℕ → Complex) (old ys : List Float) → w ≡ 64 → 64 * c + 64 ≤ length old → slots ≤ 32
    → ys ≡ planar 32 (overwritten slots (h c) (cell 32 (part (64 * c) w old))) → Written slots c (c + 1) h old (put (64 * c) w old ys)
written_lent slots c w h old ys e room few is = rw e (written_row slots c h old ys room few (rw e at is))

-- ---- stages after one another
module _ {slots from to : ℕ} {h : ℕ → ℕ → Complex} {old mid : List Float} (r : Written slots from to h old mid) where
  -- over the channels that follow
  pub written_on : {end : ℕ} {new : List Float} → Written slots to end h mid new → slots ≤ 32 → from ≤ to → to ≤ end → Written slots from end h old new
  written_on {end} {new} s few u v =
      record {
        long = s.long ∙ r.long;
        inside = λ k n a b d. at k n a b d (ltb k to) refl;
        below = λ k n a b. s.below k n (omega arith) b ∙ r.below k n a b;
        behind = λ k n a b. s.behind k n a b ∙ r.behind k n a b;
        rest = s.rest ∙ drop_more (64 * to) (64 * end) mid old r.rest (omega arith);
      }
    where
      at : (k n : ℕ) → from ≤ k → k < end → n < slots → (t : Bool) → ltb k to ≡ t → sample_at new n k ≡ h k n
      at k n a b d true e = s.below k n (ltb-true k to e) (omega arith) ∙ r.inside k n a (ltb-true k to e) d
      at k n a b d false e = s.inside k n (ltb-false k to e) b d

  -- over the same channels
  pub written_over : {g : ℕ → ℕ → Complex} {new : List Float} → Written slots from to g mid new → Written slots from to g old new
  written_over s =
      record {
        long = s.long ∙ r.long;
        inside = s.inside;
        below = λ k n a b. s.below k n a b ∙ r.below k n a b;
        behind = λ k n a b. s.behind k n a b ∙ r.behind k n a b;
        rest = s.rest ∙ r.rest;
      }

  pub written_same : (g : ℕ → ℕ → Complex) → ((k n : ℕ) → from ≤ k → k < to → n < slots → h k n ≡ g k n) → Written slots from to g old mid
  written_same g e =
      record { long = r.long; inside = λ k n a b d. r.inside k n a b d ∙ e k n a b d; below = r.below; behind = r.behind; rest = r.rest }

-- the same run, to which a filter's answer is added
pub written_added : (slots c w : ℕ) (y z : ℕ → Complex) (old ys : List Float) → w ≡ 64 → 64 * c + 64 ≤ length old → slots ≤ 32
    → ys ≡ planar 32 (overwritten slots (λ n. sum (cell 32 (part (64 * c) w old) n) (y n)) (cell 32 (part (64 * c) w old)))
    → ((n : ℕ) → y n ≡ z n) → Written slots c (c + 1) (λ k n. sum (sample_at old n k) (z n)) old (put (64 * c) w old ys)
written_added slots c w y z old ys e room few is same =
    rw e
    (written_same (written_row slots c (λ k n. sum (sample_at old n k) (y n)) old ys room few (rw e at is)) (λ k n. sum (sample_at old n k) (z n))
    (λ k n a b d. ap (λ (v : Complex). sum (sample_at old n k) v) (same n)))

-- ---- all of them, as rows
module _ {slots to : ℕ} {h : ℕ → ℕ → Complex} {old new : List Float} (r : Written slots 0 to h old new) (room : 64 * to ≤ length old) where
  written : (k : ℕ) → k < to → part (64 * k) 64 new ≡ planar 32 (overwritten slots (h k) (λ n. sample_at old n k))
  written k u =
      planar_is 32 (part (64 * k) 64 new) (overwritten slots (h k) (λ n. sample_at old n k)) (part_length (64 * k) 64 new (omega (arith, r.long)))
      (λ n v. at n v (ltb n slots) refl)
    where
      at : (n : ℕ) → n < 32 → (s : Bool) → ltb n slots ≡ s → sample_at new n k ≡ cond s (h k n) (sample_at old n k)
      at n v true f = r.inside k n (omega arith) u (ltb-true n slots f)
      at n v false f = r.behind k n (ltb-false n slots f) v

  pub written_rows : new ≡ rows (λ k. planar 32 (overwritten slots (h k) (λ n. sample_at old n k))) to ++ drop (64 * to) old
  written_rows =
      sym (take-append-drop (64 * to) new)
      ∙ ap₂ (λ (a b : List Float). a ++ b)
      (ap (λ (m : ℕ). take m new) (mul_comm 64 to)
      ∙ sym (rows_cut 64 to new)
      ∙ rows_same (λ k. part (k * 64) 64 new) (λ k. planar 32 (overwritten slots (h k) (λ n. sample_at old n k))) to
      (λ k u. ap (λ (a : ℕ). part a 64 new) (mul_comm k 64) ∙ written k u))
      r.rest

-- ---- a loop over channels
pub record Writing (slots from to : ℕ) (h : ℕ → ℕ → Complex) (old new : List Float) (k : ℕ) : Type 0 where
  pub after : from ≤ k
  pub within : k ≤ to
  pub written : Written slots from k h old new
