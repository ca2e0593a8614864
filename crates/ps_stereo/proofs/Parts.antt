-- The eight numbers of 34 bands, written part after part: a store changes the number of one band alone, and once all eight parts are written every
-- place is. Assumes nothing.
use mathlib.Core.Path.{◌≡◌, refl, sym, ap, ◌∙◌}
use mathlib.Core.Logic.{◌⊎◌, inl, inr, ◌≢◌}
use mathlib.Core.List.{List}
use Prim.Native.Nat.{ℕ, ◌+◌, ◌*◌, ◌<◌, ◌≤◌}
use native.Mathlib.Nat.{eq-or-lt_of_le, mul_comm}
use native.Mathlib.Omega.{arith}
use lib.Ieee.{Float, nan}
use lib.ListN.{length, get_or, set, length-set}
use lib.Seq.{get_or-set_same, get_or-set_other, ext_get_or}
use Rattle.lists.specs.Part.{part}
use Rattle.lists.specs.Rows.{rows, tabulate}
use Rattle.lists.proofs.Maps.{tabulate_length, tabulate_at, tabulate_same}
use Rattle.lists.proofs.Parts.{part_length, part_at}
use Rattle.lists.proofs.Rows.{rows_same, rows_whole}
use Rattle.ps_stereo.specs.Parts.{Scattered}
use Rattle.ps_stereo.specs.State.{part_of}

-- ---- one part, band after band
pub scattered_none : (c : ℕ) (part old : List Float) → Scattered c part 0 old old
scattered_none c part old = record { long = refl; written = λ b u. absurd (omega arith); kept = λ b e u n. refl }

pub scattered_more : {c : ℕ} {part : List Float} {count : ℕ} {old new : List Float} → Scattered c part count old new → (v : Float) → c < 8 → count < 34 → length old ≡ 272 → v ≡ get_or part count nan → Scattered c part (count + 1) old (set new (8 * count + c) v)
scattered_more {c} {part} {count} {old} {new} r v small inside whole e = record { long = length-set new (8 * count + c) v ∙ r.long; written = written; kept = kept }
  where
    room : 8 * count + c < length new
    room = omega (arith, r.long)

    written : (b : ℕ) → b < count + 1 → get_or (set new (8 * count + c) v) (8 * b + c) nan ≡ get_or part b nan
    written b u = go (eq-or-lt_of_le at_most)
      where
        at_most : b ≤ count
        at_most = omega arith

        go : (b ≡ count) ⊎ (b < count) → get_or (set new (8 * count + c) v) (8 * b + c) nan ≡ get_or part b nan
        go (inl q) = rw q (get_or-set_same new (8 * count + c) v nan room ∙ e)
        go (inr q) = get_or-set_other new (8 * count + c) (8 * b + c) v nan (λ (z : 8 * b + c ≡ 8 * count + c). omega arith) ∙ r.written b q

    kept : (b e : ℕ) → e < 8 → e ≢ c → get_or (set new (8 * count + c) v) (8 * b + e) nan ≡ get_or old (8 * b + e) nan
    kept b e u n = get_or-set_other new (8 * count + c) (8 * b + e) v nan apart ∙ r.kept b e u n
      where
        apart : 8 * b + e ≢ 8 * count + c
        apart z = n (omega arith)

-- ---- in place: the parts below `parts` are written, part c by f c, and the others are as they were
pub record Remapped (f : ℕ → List Float) (parts : ℕ) (old l : List Float) : Type 0 where
  pub long : length l ≡ 272
  pub some : parts ≤ 8
  pub written : (b c : ℕ) → b < 34 → c < parts → get_or l (8 * b + c) nan ≡ get_or (f c) b nan
  pub ahead : (b c : ℕ) → parts ≤ c → c < 8 → get_or l (8 * b + c) nan ≡ get_or old (8 * b + c) nan

pub remapped_none : (f : ℕ → List Float) (l : List Float) → length l ≡ 272 → Remapped f 0 l l
remapped_none f l h = record { long = h; some = omega arith; written = λ b c u v. absurd (omega arith); ahead = λ b c u v. refl }

module _ {f : ℕ → List Float} {parts : ℕ} {old l : List Float} (r : Remapped f parts old l) where
  -- the next part is still to be read
  pub remapped_part : parts < 8 → part_of l parts ≡ part_of old parts
  remapped_part h = tabulate_same (λ b. get_or l (8 * b + parts) nan) (λ b. get_or old (8 * b + parts) nan) 34 (λ b u. r.ahead b parts (omega arith) h)

  pub remapped_more : (p new : List Float) → parts < 8 → p ≡ f parts → Scattered parts p 34 l new → Remapped f (parts + 1) old new
  remapped_more p new h e s =
      record {
        long = s.long ∙ r.long;
        some = omega arith;
        written = written;
        ahead = λ b c u v. s.kept b c v (λ (z : c ≡ parts). omega arith) ∙ r.ahead b c (omega arith) v;
      }
    where
      written : (b c : ℕ) → b < 34 → c < parts + 1 → get_or new (8 * b + c) nan ≡ get_or (f c) b nan
      written b c u v = go (eq-or-lt_of_le at_most)
        where
          at_most : c ≤ parts
          at_most = omega arith

          go : (c ≡ parts) ⊎ (c < parts) → get_or new (8 * b + c) nan ≡ get_or (f c) b nan
          go (inl q) = rw q (s.written b u ∙ ap (λ (t : List Float). get_or t b nan) e)
          go (inr q) = s.kept b c (omega arith) (λ (z : c ≡ parts). omega arith) ∙ r.written b c u q

  pub remapped_all : 8 ≤ parts → l ≡ rows (λ b. tabulate (λ c. get_or (f c) b nan) 8) 34
  remapped_all h = sym (rows_whole 8 34 l r.long) ∙ rows_same (λ b. part (b * 8) 8 l) (λ b. tabulate (λ c. get_or (f c) b nan) 8) 34 each
    where
      each : (b : ℕ) → b < 34 → part (b * 8) 8 l ≡ tabulate (λ c. get_or (f c) b nan) 8
      each b u =
          ext_get_or nan (part (b * 8) 8 l) (tabulate (λ c. get_or (f c) b nan) 8) (size ∙ sym (tabulate_length (λ c. get_or (f c) b nan) 8))
          (λ c v.
          let w : c < 8 = omega (arith, size) in
          part_at (b * 8) 8 l c nan w
          ∙ ap (λ (n : ℕ). get_or l (n + c) nan) (mul_comm b 8)
          ∙ r.written b c u (omega arith)
          ∙ sym (tabulate_at (λ e. get_or (f e) b nan) 8 c nan w))
        where
          size : length (part (b * 8) 8 l) ≡ 8
          size = part_length (b * 8) 8 l (omega (arith, r.long))
