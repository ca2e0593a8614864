-- A slot of a group: both sides stand on its desk, and its channels are one slot further. Assumes nothing.
use mathlib.Core.Path.{◌≡◌, refl, ap, ap₂, subst, ◌∙◌}
use mathlib.Core.Bool.{Bool}
use mathlib.Core.List.{List, ◌++◌}
use Prim.Native.Nat.{ℕ, zero, suc, ◌+◌, ◌≤◌, ◌<◌}
use native.Mathlib.Omega.{arith}
use lib.Ieee.{Float, nan}
use lib.ListN.{length, take, drop, get_or}
use lib.Seq.{take_at, length-take-le}
use Rattle.complex.specs.declared.Complex.{Complex}
use Rattle.complex.specs.Operations.{scaled}
use Rattle.planar.specs.Cells.{cell}
use Rattle.planar.specs.Lanes.{on}
use Rattle.planar.proofs.Cells.{by_parts}
use Rattle.lists.specs.Part.{put}
use Rattle.lists.proofs.Parts.{put_within}
use Rattle.standard.specs.Channel.{Channel, channel_after, third_output}
use Rattle.standard.specs.Mixing.{left_of, right_of}
use Rattle.ps_allpass_groups.specs.declared.lanes.Four.{Four}
use Rattle.ps_allpass_groups.specs.declared.lanes.Pair.{Pair}
use Rattle.ps_allpass_groups.specs.Lanes.{Marks, number_of, lane_of, mark_of, lanes, flat}
use Rattle.ps_allpass_groups.specs.Desk.{chain_on, matrix_on, sample_on, duck_on, left_on, right_on}
use Rattle.ps_allpass_groups.specs.Rings.{Holds}
use Rattle.ps_allpass_groups.specs.Groups.{side_on, Grouped}
use Rattle.ps_allpass_groups.proofs.OfLanes.{number_of_lem, lane_of_lem, lanes_at, four_at}
use Rattle.ps_allpass_groups.proofs.Steps.{Stepped}

-- ---- two pairs in a line

cell_left : (a b : Pair) (i : ℕ) → i < 4 → cell 4 (flat a ++ flat b) i ≡ lane_of i a
cell_left a b zero l = refl
cell_left a b (suc zero) l = refl
cell_left a b (suc (suc zero)) l = refl
cell_left a b (suc (suc (suc zero))) l = refl
cell_left a b (suc (suc (suc (suc i)))) l = absurd (omega arith)

cell_right : (a b : Pair) (i : ℕ) → i < 4 → cell 4 (flat a ++ flat b) (8 + i) ≡ lane_of i b
cell_right a b zero l = refl
cell_right a b (suc zero) l = refl
cell_right a b (suc (suc zero)) l = refl
cell_right a b (suc (suc (suc zero))) l = refl
cell_right a b (suc (suc (suc (suc i)))) l = absurd (omega arith)

-- ---- on a desk

module _ (desk : List Float) (a b : Pair) (long : length desk ≡ 136) where
  cell_in : (i n : ℕ) → i + 4 < 16 → 120 + i ≡ n → cell 4 (put 120 16 desk (flat a ++ flat b)) n ≡ cell 4 (flat a ++ flat b) i
  cell_in i n l p =
      let sixteen : length (flat a ++ flat b) ≡ 16 = refl in
      let at : ℕ → Float = λ k. get_or (put 120 16 desk (flat a ++ flat b)) k nan in
      let inside : 120 ≤ length desk = omega arith in
      by_parts (ap at (omega arith) ∙ put_within 120 16 desk (flat a ++ flat b) inside i nan (omega (arith, sixteen)))
      (ap at (omega arith) ∙ put_within 120 16 desk (flat a ++ flat b) inside (i + 4) nan (omega (arith, sixteen)))

  left_cell : (i : ℕ) → i < 4 → cell 4 (put 120 16 desk (flat a ++ flat b)) (120 + i) ≡ lane_of i a
  left_cell i l = cell_in i (120 + i) (omega arith) refl ∙ cell_left a b i l

  right_cell : (i : ℕ) → i < 4 → cell 4 (put 120 16 desk (flat a ++ flat b)) (128 + i) ≡ lane_of i b
  right_cell i l = cell_in (8 + i) (128 + i) (omega arith) (omega arith) ∙ cell_right a b i l

  front_kept : take 120 (put 120 16 desk (flat a ++ flat b)) ≡ take 120 desk
  front_kept = take_at (take 120 desk) (flat a ++ flat b ++ drop 16 (drop 120 desk)) 120 (length-take-le 120 desk (omega arith))

module _ (turn : ℕ) (t : Float) (held : Bool) (marks : Marks) (part₀ desk₀ part₁ desk₁ : List Float) {s d e : Pair} {f : Four} (long : length desk₀ ≡ 136)
    (read : s ≡ lanes_at desk₀ 108) (step : Stepped turn desk₀ s part₀ part₁ d) (given : f ≡ four_at desk₀ 116)
    (ducked : e ≡ lanes (λ i. scaled (lane_of i d) (number_of i f)))
    (mixed : desk₁ ≡ put 120 16 desk₀
    (flat (lanes (λ i. left_of (mark_of i marks) (matrix_on t held i desk₀) (lane_of i s) (lane_of i e)))
    ++ flat (lanes (λ i. right_of (mark_of i marks) (matrix_on t held i desk₀) (lane_of i s) (lane_of i e))))) where
  module _ (i : ℕ) (l : i < 4) where
    sample : lane_of i s ≡ sample_on i desk₀
    unfolding sample_on
    sample = ap (lane_of i) read ∙ lane_of_lem (λ j. cell 4 desk₀ (108 + j)) i l

    duck : number_of i f ≡ duck_on i desk₀
    unfolding duck_on
    duck = ap (number_of i) given ∙ number_of_lem (λ j. get_or desk₀ (116 + j) nan) i l

    quiet : (c : Channel) → Holds turn (on i part₀) c → lane_of i e ≡ scaled (third_output (chain_on i desk₀) c) (duck_on i desk₀)
    quiet c r =
        ap (lane_of i) ducked ∙ lane_of_lem (λ j. scaled (lane_of j d) (number_of j f)) i l ∙ ap₂ (λ (z : Complex) (g : Float). scaled z g) (step i l c r).1 duck

  a : Pair
  a = lanes (λ i. left_of (mark_of i marks) (matrix_on t held i desk₀) (lane_of i s) (lane_of i e))

  b : Pair
  b = lanes (λ i. right_of (mark_of i marks) (matrix_on t held i desk₀) (lane_of i s) (lane_of i e))

  both : desk₁ ≡ put 120 16 desk₀ (flat a ++ flat b)
  unfolding a b
  both = mixed

  left_side : (i : ℕ) → i < 4 → (c : Channel) → Holds turn (on i part₀) c → left_on i desk₁ ≡ side_on left_of t held (mark_of i marks) i desk₀ c
  unfolding left_on side_on a
  left_side i l c r =
      ap (λ (zs : List Float). cell 4 zs (120 + i)) both
      ∙ left_cell desk₀ a b long i l
      ∙ lane_of_lem (λ j. left_of (mark_of j marks) (matrix_on t held j desk₀) (lane_of j s) (lane_of j e)) i l
      ∙ ap₂ (left_of (mark_of i marks) (matrix_on t held i desk₀)) (sample i l) (quiet i l c r)

  right_side : (i : ℕ) → i < 4 → (c : Channel) → Holds turn (on i part₀) c → right_on i desk₁ ≡ side_on right_of t held (mark_of i marks) i desk₀ c
  unfolding right_on side_on b
  right_side i l c r =
      ap (λ (zs : List Float). cell 4 zs (128 + i)) both
      ∙ right_cell desk₀ a b long i l
      ∙ lane_of_lem (λ j. right_of (mark_of j marks) (matrix_on t held j desk₀) (lane_of j s) (lane_of j e)) i l
      ∙ ap₂ (right_of (mark_of i marks) (matrix_on t held i desk₀)) (sample i l) (quiet i l c r)

  pub grouped : Grouped turn t held (λ i. mark_of i marks) part₀ desk₀ part₁ desk₁
  grouped =
      record {
        own = λ i l c r. subst (λ (x : Complex). Holds (turn + 1) (on i part₁) (channel_after (chain_on i desk₀) c x)) (sample i l) (step i l c r).0;
        left = left_side;
        right = right_side;
        kept = ap (take 120) both ∙ front_kept desk₀ a b long;
      }
