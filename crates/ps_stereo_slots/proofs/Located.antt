-- The region of a slot: the last envelope that has it, which is the one whose region was written last. Assumes nothing.
use mathlib.Core.Path.{◌≡◌, refl, sym, ◌∙◌}
use mathlib.Core.Bool.{Bool, true, false, cond}
use mathlib.Core.List.{List}
use Prim.Native.Nat.{ℕ, zero, suc, ◌-◌, ◌<◌, ◌≤◌, min}
use native.Mathlib.Omega.{arith}
use borrow.Author.Tests.{le-leb, lt-leb, leb-false, ltb-true, ltb-false, lt-ltb, le-ltb}
use lib.Dec.{leb, ltb}
use lib.Ieee.{Float}
use lib.ListN.{length}
use Rattle.limits.specs.Limits as limits
use Rattle.standard.specs.declared.Matrix.{Matrix}
use Rattle.standard.specs.Interpolation.{start, border_at, between, filled_by, matrix_by}
use Rattle.ps_stereo_slots.specs.Slots.{borders_of}
use Rattle.ps_stereo_slots.specs.Envelopes.{in_region, region_below, region_of}
use Rattle.ps_stereo_slots.proofs.Borders.{matrix_taken}

-- ---- a slot before the last border, and one after it
module _ (borders : List ℕ) (n : ℕ) where
  pub region_before : (count : ℕ) → n < start borders count → region_of borders count n ≡ region_below borders n count
  unfolding region_of
  region_before count u = rw (lt-leb (start borders count) n u)

  pub region_past : (count : ℕ) → start borders count ≤ n → region_of borders count n ≡ count
  unfolding region_of
  region_past count u = rw (le-leb (start borders count) n u)

  -- the envelopes are looked through from the last one down
  pub below_last : (e : ℕ) → 0 < e → region_below borders n e ≡ cond (in_region borders (e - 1) n) (e - 1) (region_below borders n (e - 1))
  unfolding region_below
  below_last zero some = absurd (omega arith)
  below_last (suc e) some = let less : suc e - 1 ≡ e = omega arith in rw less

  below_within : (e : ℕ) → region_below borders n e ≤ e
  unfolding region_below
  below_within zero = omega arith
  below_within (suc e) = by (in_region borders e n) (below_within e)
    where
      by : (b : Bool) → region_below borders n e ≤ e → cond b e (region_below borders n e) ≤ suc e
      by true u = omega arith
      by false u = omega arith

pub region_within : (borders : List ℕ) (count n : ℕ) → region_of borders count n ≤ count
unfolding region_of
region_within borders count n = by (leb (start borders count) n) (below_within borders n count)
  where
    by : (b : Bool) → region_below borders n count ≤ count → cond b count (region_below borders n count) ≤ count
    by true u = omega arith
    by false u = u

-- ---- what was written there
module _ (borders : List ℕ) (t : ℕ → ℕ → Float) (h : ℕ → Matrix) (n : ℕ) where
  record Found (e : ℕ) : Type 0 where
    below : region_below borders n e < e
    filled : filled_by borders t h n e ≡ between (h (region_below borders n e)) (h (suc (region_below borders n e))) (t (region_below borders n e) n)

  -- n is at most the last border: it lies in the last region or before it
  found : (e : ℕ) → n < start borders e → Found e
  unfolding region_below filled_by
  found zero u = absurd (omega arith)
  found (suc e) u = by (leb (start borders e) n) refl (λ less. found e less)
    where
      up_to : leb n (border_at borders e) ≡ true
      up_to = le-leb n (border_at borders e) (omega arith)

      by : (b : Bool) → leb (start borders e) n ≡ b → (n < start borders e → Found e) → Found (suc e)
      by true s earlier = let here : in_region borders e n ≡ true = rw (s, up_to) in record { below = rw here (omega arith); filled = rw here }
      by false s earlier =
          let r = earlier (leb-false (start borders e) n s) in
          record { below = rw s (omega (arith, r.below)); filled = rw s r.filled }

  chosen : (m : ℕ) → cond (leb (start borders m) n) (h m) (filled_by borders t h n m)
      ≡ cond (ltb (region_of borders m n) m) (between (h (region_of borders m n)) (h (suc (region_of borders m n))) (t (region_of borders m n) n)) (h m)
  chosen m = by (ltb n (start borders m)) refl
    where
      by : (b : Bool) → ltb n (start borders m) ≡ b → cond (leb (start borders m) n) (h m) (filled_by borders t h n m)
          ≡ cond (ltb (region_of borders m n) m) (between (h (region_of borders m n)) (h (suc (region_of borders m n))) (t (region_of borders m n) n)) (h m)
      by true s =
          let before = ltb-true n (start borders m) s in
          let r = found m before in
          rw (region_before borders n m before, lt-leb (start borders m) n before, lt-ltb (region_below borders n m) m r.below) r.filled
      by false s =
          let past = ltb-false n (start borders m) s in
          rw (region_past borders n m past, le-leb (start borders m) n past, le-ltb m m (omega arith))

pub by_region : (borders : List ℕ) (count : ℕ) → length borders ≡ limits.envelopes → (t : ℕ → ℕ → Float) (h : ℕ → Matrix) (n : ℕ)
    → matrix_by (borders_of borders count) t h n
    ≡ cond (ltb (region_of borders (min count limits.envelopes) n) (min count limits.envelopes))
    (between (h (region_of borders (min count limits.envelopes) n)) (h (suc (region_of borders (min count limits.envelopes) n))) (t (region_of borders (min count limits.envelopes) n) n))
    (h (min count limits.envelopes))
by_region borders count long t h n =
    sym (matrix_taken borders (min count limits.envelopes) t h (omega arith) n) ∙ chosen borders t h n (min count limits.envelopes)
