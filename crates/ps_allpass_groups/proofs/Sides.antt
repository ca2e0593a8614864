-- Both sides of a slot of four channels: lane by lane those of the standard, and where they stand on the desk. Assumes nothing.
use mathlib.Core.Path.{◌≡◌, sym, ap, ap₂, ◌∙◌}
use mathlib.Core.Bool.{Bool}
use mathlib.Core.List.{List, ◌++◌, append_assoc}
use Prim.Native.Nat.{ℕ, ◌+◌, ◌<◌}
use native.Mathlib.Omega.{arith}
use borrow.Rule.Slice.PartMut.{same_len_mid}
use lib.Ieee.{Float}
use lib.ListN.{length, take, drop, length-append}
use lib.Seq.{take_at, length-take-le}
use Rattle.complex.specs.declared.Complex.{Complex}
use Rattle.complex.specs.Operations.{product, sum}
use Rattle.lists.specs.Part.{put}
use Rattle.lists.proofs.Parts.{part_length, tail_back, put_line}
use Rattle.standard.specs.Mixing.{taken, left_of, right_of}
use Rattle.ps_allpass_groups.specs.declared.lanes.Pair.{Pair}
use Rattle.ps_allpass_groups.specs.Lanes.{Marks, lane_of, mark_of, lanes, flat}
use Rattle.ps_allpass_groups.specs.Desk.{matrix_on}
use Rattle.ps_allpass_groups.proofs.OfLanes.{lane_of_lem, lanes_same}
use Rattle.ps_allpass_groups.proofs.Ways.{on_way, way_11, way_12, way_21, way_22}

-- ---- a side: two coefficients, each taken and multiplied, and their sum

module _ (marks : Marks) (i : ℕ) (l : i < 4) where
  multiplied : (f : ℕ → Complex) (x : Pair) {w h m : Pair} → w ≡ lanes f → h ≡ lanes (λ j. taken (mark_of j marks) (lane_of j w)) → m ≡ lanes (λ j. product (lane_of j h) (lane_of j x))
      → lane_of i m ≡ product (taken (mark_of i marks) (f i)) (lane_of i x)
  multiplied f x {w} {h} {m} way took made =
      ap (lane_of i) made
      ∙ lane_of_lem (λ j. product (lane_of j h) (lane_of j x)) i l
      ∙ ap (λ (z : Complex). product z (lane_of i x))
      (ap (lane_of i) took
      ∙ lane_of_lem (λ j. taken (mark_of j marks) (lane_of j w)) i l
      ∙ ap (taken (mark_of i marks)) (ap (lane_of i) way ∙ lane_of_lem f i l))

module _ (desk : List Float) (t : Float) (held : Bool) (marks : Marks) (s d : Pair) {w h m v g n o : Pair} (took : h ≡ lanes (λ j. taken (mark_of j marks) (lane_of j w)))
    (made : m ≡ lanes (λ j. product (lane_of j h) (lane_of j s))) (took₂ : g ≡ lanes (λ j. taken (mark_of j marks) (lane_of j v)))
    (made₂ : n ≡ lanes (λ j. product (lane_of j g) (lane_of j d))) (added : o ≡ lanes (λ j. sum (lane_of j m) (lane_of j n))) where
  pub is_left : w ≡ lanes (on_way desk t held 44) → v ≡ lanes (on_way desk t held 60)
      → o ≡ lanes (λ j. left_of (mark_of j marks) (matrix_on t held j desk) (lane_of j s) (lane_of j d))
  unfolding left_of
  is_left way way₂ =
      added
      ∙ lanes_same (λ j. sum (lane_of j m) (lane_of j n)) (λ j. left_of (mark_of j marks) (matrix_on t held j desk) (lane_of j s) (lane_of j d))
      (λ i l. ap₂ (λ (a b : Complex). sum a b)
      (multiplied marks i l (on_way desk t held 44) s way took made ∙ ap (λ (z : Complex). product (taken (mark_of i marks) z) (lane_of i s)) (way_11 desk t i held))
      (multiplied marks i l (on_way desk t held 60) d way₂ took₂ made₂ ∙ ap (λ (z : Complex). product (taken (mark_of i marks) z) (lane_of i d)) (way_21 desk t i held)))

  pub is_right : w ≡ lanes (on_way desk t held 52) → v ≡ lanes (on_way desk t held 68)
      → o ≡ lanes (λ j. right_of (mark_of j marks) (matrix_on t held j desk) (lane_of j s) (lane_of j d))
  unfolding right_of
  is_right way way₂ =
      added
      ∙ lanes_same (λ j. sum (lane_of j m) (lane_of j n)) (λ j. right_of (mark_of j marks) (matrix_on t held j desk) (lane_of j s) (lane_of j d))
      (λ i l. ap₂ (λ (a b : Complex). sum a b)
      (multiplied marks i l (on_way desk t held 52) s way took made ∙ ap (λ (z : Complex). product (taken (mark_of i marks) z) (lane_of i s)) (way_12 desk t i held))
      (multiplied marks i l (on_way desk t held 68) d way₂ took₂ made₂ ∙ ap (λ (z : Complex). product (taken (mark_of i marks) z) (lane_of i d)) (way_22 desk t i held)))

-- ---- on the desk

-- two cells are written one after the other
pub both_put : (xs e₁ e₂ : List Float) (l r : Pair) → length xs ≡ 136 → e₁ ≡ flat l → e₂ ≡ flat r → put 128 8 (put 120 8 xs e₁) e₂ ≡ put 120 16 xs (flat l ++ flat r)
both_put xs e₁ e₂ l r long p q =
    let whole : length (put 120 8 xs e₁) ≡ 136 = same_len_mid 120 8 xs e₁ (ap length p ∙ sym (part_length 120 8 xs (omega arith))) ∙ long in
    let half : length (take 120 xs ++ e₁) ≡ 128 = rw (length-append, length-take-le 120 xs (omega arith), ap length p) in
    tail_back 128 8 (put 120 8 xs e₁) e₂ (omega arith)
    ∙ ap (λ (zs : List Float). zs ++ e₂) (ap (take 128) (put_line 120 8 xs e₁) ∙ take_at (take 120 xs ++ e₁) (drop 128 xs) 128 half)
    ∙ append_assoc (take 120 xs) e₁ e₂
    ∙ ap (λ (zs : List Float). take 120 xs ++ zs) (ap₂ (λ (a b : List Float). a ++ b) p q)
    ∙ sym (tail_back 120 16 xs (flat l ++ flat r) (omega arith))
