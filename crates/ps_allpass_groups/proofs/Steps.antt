-- The steps of `chain` are those of each lane's channel. Assumes nothing.
use mathlib.Core.Path.{◌≡◌, refl, ap, ap₂, subst, ◌∙◌}
use mathlib.Core.List.{List}
use Prim.Native.Nat.{ℕ, ◌+◌, ◌*◌, ◌-◌, ◌%◌, ◌<◌}
use native.Mathlib.Nat.{add-sub_cancel_left}
use native.Mathlib.Omega.{arith}
use borrow.Rule.Slice.PartMut.{same_len_mid}
use lib.Ieee.{Float}
use lib.ListN.{length}
use Rattle.complex.specs.declared.Complex.{Complex}
use Rattle.complex.specs.Operations.{product}
use Rattle.planar.specs.Cells.{cell}
use Rattle.planar.specs.Lanes.{on}
use Rattle.lists.specs.Part.{part, put}
use Rattle.standard.specs.declared.Link.{Link}
use Rattle.standard.specs.Channel.{Channel, channel_after, third_output}
use Rattle.ps_allpass_groups.specs.declared.lanes.Four.{Four}
use Rattle.ps_allpass_groups.specs.declared.lanes.Pair.{Pair}
use Rattle.ps_allpass_groups.specs.Lanes.{lane_of, link_of, lanes, flat}
use Rattle.ps_allpass_groups.specs.Desk.{chain_on}
use Rattle.ps_allpass_groups.specs.Rings.{Holds}
use Rattle.ps_allpass_groups.proofs.OfLanes.{lane_of_lem, lanes_at, four_at, link_at, link_read}
use Rattle.ps_allpass_groups.proofs.Cells.{Put, Step, Linked, back_in, link_step}
use Rattle.ps_allpass_groups.proofs.Rings.{is_third, held}

-- a part one slot later, x having come in, and what comes out: whatever channels it held, they are one slot further
abbrev pub Stepped : ℕ → List Float → Pair → List Float → List Float → Pair → Type 0
Stepped t desk x part₀ part₁ y =
    (i : ℕ) → i < 4 → (c : Channel) → Holds t (on i part₀) c
    → Holds (t + 1) (on i part₁) (channel_after (chain_on i desk) c (lane_of i x)) × (lane_of i y ≡ third_output (chain_on i desk) c)

-- a cell as `&mut part[a..a + 8]` lends it, and the part when it is back
abbrev pub lent_at : ℕ → List Float → List Float
lent_at k xs = part (8 * k) (8 * k + 8 - 8 * k) xs

abbrev pub put_at : ℕ → List Float → List Float → List Float
put_at k xs ys = put (8 * k) (8 * k + 8 - 8 * k) xs ys

put_long : (k : ℕ) (xs ys : List Float) → length xs ≡ 112 → length ys ≡ length (lent_at k xs) → length (put_at k xs ys) ≡ 112
put_long k xs ys l e = same_len_mid (8 * k) (8 * k + 8 - 8 * k) xs ys e ∙ l

-- the part after each of its cells came back
module _ (t : ℕ) (part₀ e₀ : List Float) where
  abbrev pub entered₁ : List Float
  entered₁ = put_at (t % 2) part₀ e₀

  abbrev pub first₂ : List Float → List Float
  first₂ e₁ = put_at (2 + t % 3) entered₁ e₁

  abbrev pub second₃ : List Float → List Float → List Float
  second₃ e₁ e₂ = put_at (5 + t % 4) (first₂ e₁) e₂

  abbrev pub third₄ : List Float → List Float → List Float → List Float
  third₄ e₁ e₂ e₃ = put_at (9 + t % 5) (second₃ e₁ e₂) e₃

module _ (t : ℕ) (desk : List Float) (x : Pair) (part₀ e₀ e₁ e₂ e₃ : List Float) {q₀ d u q₁ q₂ q₃ v w y : Pair} {f₁ f₂ f₃ : Four} (long₀ : length part₀ ≡ 112)
    (kept₀ : length e₀ ≡ length (lent_at (t % 2) part₀)) (kept₁ : length e₁ ≡ length (lent_at (2 + t % 3) (entered₁ t part₀ e₀)))
    (kept₂ : length e₂ ≡ length (lent_at (5 + t % 4) (first₂ t part₀ e₀ e₁)))
    (read₀ : q₀ ≡ lanes_at desk 0) (delayed : d ≡ lanes_at part₀ (8 * (t % 2))) (turned : u ≡ lanes (λ i. product (lane_of i q₀) (lane_of i d))) (entered : e₀ ≡ flat x)
    (read₁ : q₁ ≡ lanes_at desk 8) (given₁ : f₁ ≡ four_at desk 16) (one : Linked (lent_at (2 + t % 3) (entered₁ t part₀ e₀)) u q₁ f₁ e₁ v)
    (read₂ : q₂ ≡ lanes_at desk 20) (given₂ : f₂ ≡ four_at desk 28) (two : Linked (lent_at (5 + t % 4) (first₂ t part₀ e₀ e₁)) v q₂ f₂ e₂ w)
    (read₃ : q₃ ≡ lanes_at desk 32) (given₃ : f₃ ≡ four_at desk 40) (three : Linked (lent_at (9 + t % 5) (second₃ t part₀ e₀ e₁ e₂)) w q₃ f₃ e₃ y) where
  part₁ : List Float
  part₁ = entered₁ t part₀ e₀

  part₂ : List Float
  part₂ = first₂ t part₀ e₀ e₁

  part₃ : List Float
  part₃ = second₃ t part₀ e₀ e₁ e₂

  part₄ : List Float
  part₄ = third₄ t part₀ e₀ e₁ e₂ e₃

  long₁ : length part₁ ≡ 112
  unfolding part₁
  long₁ = put_long (t % 2) part₀ e₀ long₀ kept₀

  long₂ : length part₂ ≡ 112
  unfolding part₁ part₂
  long₂ = put_long (2 + t % 3) part₁ e₁ long₁ kept₁

  long₃ : length part₃ ≡ 112
  unfolding part₂ part₃
  long₃ = put_long (5 + t % 4) part₂ e₂ long₂ kept₂

  -- in a lane
  module _ (i : ℕ) (l : i < 4) where
    enter : Put (t % 2) (lane_of i x) (on i part₀) (on i part₁)
    unfolding part₁
    enter = (back_in (t % 2) _ part₀ (add-sub_cancel_left (8 * (t % 2)) 8) (omega arith) i l e₀ x entered)

    is_turned : lane_of i u ≡ product (chain_on i desk).fractional (on i part₀ (t % 2))
    unfolding chain_on on
    is_turned =
        ap (lane_of i) turned
        ∙ lane_of_lem (λ j. product (lane_of j q₀) (lane_of j d)) i l
        ∙ ap₂ (λ (a b : Complex). product a b)
        (ap (lane_of i) read₀ ∙ lane_of_lem (λ j. cell 4 desk (0 + j)) i l ∙ ap (cell 4 desk) (omega arith))
        (ap (lane_of i) delayed ∙ lane_of_lem (λ j. cell 4 part₀ (8 * (t % 2) + j)) i l)

    step : (k at : ℕ) (a : List Float) (z q : Pair) (f : Four) {s : Pair} {b e : List Float} → k < 14 → length a ≡ 112 → b ≡ put_at k a e → q ≡ lanes_at desk at → f ≡ four_at desk (at + 8)
        → Linked (lent_at k a) z q f e s → Step k (lane_of i z) (link_at (at + i) desk) (on i a) (on i b) (lane_of i s)
    step k at a z q f {s} {b} {e} few long back read given r =
        let is : link_of i q f ≡ link_at (at + i) desk = ap₂ (λ (m : Pair) (n : Four). link_of i m n) read given ∙ link_read desk at i l in
        rw back
        (subst (λ (m : Link). Step k (lane_of i z) m (on i a) (on i (put_at k a e)) (lane_of i s)) is
        (link_step k _ a (add-sub_cancel_left (8 * k) 8) (omega arith) i l z q f r))

    first_step : Step (2 + t % 3) (lane_of i u) (chain_on i desk).first (on i part₁) (on i part₂) (lane_of i v)
    unfolding chain_on part₁ part₂
    first_step = step (2 + t % 3) 8 part₁ u q₁ f₁ (omega arith) long₁ refl read₁ given₁ one

    second_step : Step (5 + t % 4) (lane_of i v) (chain_on i desk).second (on i part₂) (on i part₃) (lane_of i w)
    unfolding chain_on part₂ part₃
    second_step = step (5 + t % 4) 20 part₂ v q₂ f₂ (omega arith) long₂ refl read₂ given₂ two

    third_step : Step (9 + t % 5) (lane_of i w) (chain_on i desk).third (on i part₃) (on i part₄) (lane_of i y)
    unfolding chain_on part₃ part₄
    third_step = step (9 + t % 5) 32 part₃ w q₃ f₃ (omega arith) long₃ refl read₃ given₃ three

  pub stepped : Stepped t desk x part₀ (third₄ t part₀ e₀ e₁ e₂ e₃) y
  unfolding part₄
  stepped i l c r = (
    held t (chain_on i desk) c (lane_of i x) r (enter i l) (is_turned i l) (first_step i l) (second_step i l) (third_step i l),
    is_third t (chain_on i desk) c (lane_of i x) r (enter i l) (is_turned i l) (first_step i l) (second_step i l) (third_step i l),
  )
