-- The memory of the delays after a frame: a row of the ring for each of the last slots, or a copy of the last one, and such lists by their pairs.
-- Assumes nothing.
use mathlib.Core.Path.{◌≡◌, refl, sym, ap, ◌∙◌}
use mathlib.Core.Logic.{◌⊎◌, inl, inr, ◌≢◌}
use mathlib.Core.Bool.{Bool, true, false}
use mathlib.Core.List.{List, [], ◌∷◌}
use Prim.Native.Nat.{ℕ, ◌+◌, ◌-◌, ◌*◌, ◌%◌, ◌<◌, ◌≤◌, min}
use native.Mathlib.Nat.{eq-or-lt_of_le}
use native.Mathlib.Omega.{arith}
use borrow.Author.Tests.{ltb-true, ltb-false}
use borrow.Rule.Slice.PartMut.{same_len_mid}
use lib.Dec.{ltb}
use lib.Ieee.{Float}
use lib.ListN.{length}
use Rattle.complex.specs.declared.Complex.{Complex}
use Rattle.lists.specs.Part.{part, put}
use Rattle.lists.specs.Rows.{rows}
use Rattle.lists.proofs.Parts.{part_length}
use Rattle.lists.proofs.Rows.{rows_same, rows_whole}
use Rattle.planar.specs.Cells.{cell, side_by_side}
use Rattle.planar.proofs.Cells.{planar_is}
use Rattle.ps_delay_channels.specs.Spans.{long_delay, short_delay, earlier}
use Rattle.ps_delay_channels.proofs.Bands.{earlier_kept, earlier_came, lent_pair, pair_before, pair_behind, pair_within}

-- ---- what the memories hold after a frame: what its next slots would read
abbrev pub KeptLong : ℕ → ℕ → List Float → List Float → List Float → Type 0
KeptLong position slots input long new =
    (i j : ℕ) → i < 14 → j < 12 → cell 1 new (24 * ((position + (slots + i)) % 14) + 2 * j) ≡ earlier (long_delay position) long input (slots + i) (23 + j)

abbrev pub KeptShort : ℕ → List Float → List Float → List Float → Type 0
KeptShort slots input short new = (j : ℕ) → j < 29 → cell 1 new (2 * j) ≡ earlier short_delay short input slots (35 + j)

-- ---- the ring: of the slots behind the frame, those less than 14 behind slot n read what they will
pub record Keeping (position slots : ℕ) (input long new : List Float) (n : ℕ) : Type 0 where
  pub high : n ≤ slots
  pub whole : length new ≡ 336
  pub at : (m j : ℕ) → slots ≤ m → m < n + 14 → j < 12 → cell 1 new (24 * ((position + m) % 14) + 2 * j) ≡ earlier (long_delay position) long input m (23 + j)

pub keeping_none : (position slots : ℕ) (input long : List Float) (n : ℕ) → n ≡ slots - min slots 14 → length long ≡ 336 → Keeping position slots input long long n
keeping_none position slots input long n e whole =
    record {
      high = omega arith;
      whole = whole;
      at = λ m j u v h. earlier_kept (long_delay position) long input m (23 + j) (24 * ((position + m) % 14) + 2 * j) (omega arith) (omega arith);
    }

-- slots less than 14 apart have rows of their own
rows_apart : (p n m : ℕ) → n < m → m < n + 14 → (p + m) % 14 ≢ (p + n) % 14
rows_apart p n m u v e = omega arith

module _ {position slots : ℕ} {input long new : List Float} {n : ℕ} (r : Keeping position slots input long new n) where
  pub keeping_more : (w v : ℕ) (ys : List Float) → w ≡ 24 → v ≡ 24 → n < slots → ys ≡ part (128 * n + 46) w input → length ys ≡ 24
      → Keeping position slots input long (put (24 * ((position + n) % 14)) v new ys) (n + 1)
  keeping_more w v ys e f more is row =
      rw f
      (record {
        high = omega arith;
        whole = same_len_mid place 24 new ys (row ∙ sym (part_length place 24 new (omega arith))) ∙ r.whole;
        at = λ m j u l h. one m j u h (eq-or-lt_of_le (at_most m l));
      })
    where
      place : ℕ
      place = 24 * ((position + n) % 14)

      at_most : (m : ℕ) → m < n + 1 + 14 → m ≤ n + 14
      at_most m l = omega arith

      other : (a j : ℕ) → j < 12 → a ≢ (position + n) % 14 → (t : Bool) → ltb a ((position + n) % 14) ≡ t
          → cell 1 (put place 24 new ys) (24 * a + 2 * j) ≡ cell 1 new (24 * a + 2 * j)
      other a j h ne true t =
          pair_before place 24 new ys (omega (arith, r.whole)) row (24 * a + 2 * j) (omega (arith, ltb-true a ((position + n) % 14) t))
      other a j h ne false t =
          pair_behind place 24 new ys (omega (arith, r.whole)) row (24 * a + 2 * j) (omega (arith, ltb-false a ((position + n) % 14) t))

      one : (m j : ℕ) → slots ≤ m → j < 12 → (m ≡ n + 14) ⊎ (m < n + 14)
          → cell 1 (put place 24 new ys) (24 * ((position + m) % 14) + 2 * j) ≡ earlier (long_delay position) long input m (23 + j)
      one m j u h (inl d) =
          pair_within place 24 new ys (omega (arith, r.whole)) row (2 * j) (24 * ((position + m) % 14) + 2 * j) (omega arith) (omega arith)
          ∙ ap (λ (t : List Float). cell 1 t (2 * j)) is
          ∙ ap (λ (k : ℕ). cell 1 (part (128 * n + 46) k input) (2 * j)) e
          ∙ lent_pair (128 * n + 46) 24 input (2 * j) (omega arith)
          ∙ earlier_came (long_delay position) long input m (23 + j) (128 * n + 46 + 2 * j) (omega arith) (omega arith)
      one m j u h (inr l) =
          let a = (position + m) % 14 in
          other a j h (rows_apart position n m (omega arith) l) (ltb a ((position + n) % 14)) refl ∙ r.at m j u l h

  pub keeping_all : n ≡ slots → KeptLong position slots input long new
  keeping_all e i j u h = r.at (slots + i) j (omega arith) (omega arith) h

-- ---- one row: no slot came, or the last one is copied
module _ (slots : ℕ) (input short : List Float) where
  pub short_stays : slots ≡ 0 → KeptShort slots input short short
  short_stays none j h = earlier_kept short_delay short input slots (35 + j) (2 * j) (omega arith) (omega arith)

  pub short_copied : (w : ℕ) (new : List Float) → w ≡ 58 → slots ≢ 0 → new ≡ part (128 * (slots - 1) + 70) w input → KeptShort slots input short new
  short_copied w new e some is j h =
      let place = 128 * (slots - 1) + 70 in
      ap (λ (t : List Float). cell 1 t (2 * j)) is
      ∙ ap (λ (k : ℕ). cell 1 (part place k input) (2 * j)) e
      ∙ lent_pair place 58 input (2 * j) (omega arith)
      ∙ earlier_came short_delay short input slots (35 + j) (place + 2 * j) (omega arith) (omega arith)

-- ---- pairs side by side make their list, and so do rows of them
pub side_by_side_lem : (f : ℕ → Complex) (count : ℕ) (xs : List Float) → length xs ≡ count * 2 → ((j : ℕ) → j < count → cell 1 xs (2 * j) ≡ f j) → xs ≡ side_by_side f count
unfolding rows
side_by_side_lem f count xs long each =
    sym (rows_whole 2 count xs long) ∙ rows_same (λ j. part (j * 2) 2 xs) (λ j. (f j).re ∷ (f j).im ∷ []) count row
  where
    pair : (j : ℕ) → j < count → (i : ℕ) → i ≡ 0 → cell 1 (part (j * 2) 2 xs) i ≡ f j
    pair j u i e =
        let here : j * 2 + 0 ≡ 2 * j = omega arith in
        rw e (lent_pair (j * 2) 2 xs 0 (omega arith) ∙ ap (cell 1 xs) here ∙ each j u)

    row : (j : ℕ) → j < count → part (j * 2) 2 xs ≡ (f j).re ∷ (f j).im ∷ []
    row j u = planar_is 1 (part (j * 2) 2 xs) (λ i. f j) (part_length (j * 2) 2 xs (omega arith)) (λ i v. pair j u i (omega arith))

pub ring_rows : (f : ℕ → ℕ → Complex) (xs : List Float) → length xs ≡ 336 → ((r j : ℕ) → r < 14 → j < 12 → cell 1 xs (24 * r + 2 * j) ≡ f r j)
    → xs ≡ rows (λ r. side_by_side (f r) 12) 14
ring_rows f xs long each =
    sym (rows_whole 24 14 xs long)
    ∙ rows_same (λ r. part (r * 24) 24 xs) (λ r. side_by_side (f r) 12) 14
    (λ r u. side_by_side_lem (f r) 12 (part (r * 24) 24 xs) (part_length (r * 24) 24 xs (omega arith))
    (λ j h.
    let here : r * 24 + 2 * j ≡ 24 * r + 2 * j = omega arith in
    lent_pair (r * 24) 24 xs (2 * j) (omega arith) ∙ ap (cell 1 xs) here ∙ each r j u h))
