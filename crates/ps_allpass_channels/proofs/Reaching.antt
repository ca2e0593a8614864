-- Slot by slot: what holds before the first one, and after one more. Assumes nothing.
use Prim.Native.Nat.{ℕ, ◌+◌, ◌*◌, ◌<◌, ◌≤◌}
use native.Mathlib.Numerals.{add-one}
use native.Mathlib.Nat.{add-zero}
use native.Mathlib.Omega.{arith}
use mathlib.Core.Path.{◌≡◌, refl, subst, ◌∙◌}
use mathlib.Core.Bool.{Bool, true, false}
use mathlib.Core.List.{List}
use lib.IntN.{ℤ}
use borrow.Author.Tests.{ltb-true, ltb-false, eqb-true, eqb-false}
use lib.Dec.{eqb, ltb}
use lib.Ieee.{Float, nan}
use lib.ListN.{get_or}
use Rattle.complex.specs.declared.Complex.{Complex}
use Rattle.complex.specs.Operations.{scaled}
use Rattle.layout.specs.declared.Layout.{Layout}
use Rattle.layout.specs.Numbers.{all_pass_of}
use Rattle.layout.proofs.Bounds.{bounds}
use Rattle.planar.specs.Frame.{sample_in, qmf_at}
use Rattle.ps_allpass_groups.specs.Desk.{chain_on, matrix_on}
use Rattle.ps_allpass_groups.specs.Rings.{Holds}
use Rattle.ps_allpass_groups.proofs.Reading.{holds_read}
use Rattle.ps_decorr_allpass.specs.Memory.{lane_of, channel_of}
use Rattle.ps_map.specs.Bands.{band_of, conjugated_of}
use Rattle.ps_stereo_slots.specs.declared.Timing.{Timing}
use Rattle.standard.specs.declared.Chain.{Chain}
use Rattle.standard.specs.declared.Matrix.{Matrix}
use Rattle.standard.specs.Channel.{Channel, chain_from, channel_after, channel_at, third_output}
use Rattle.standard.specs.Hybrid.{synthesised}
use Rattle.standard.specs.Mixing.{left_of, right_of}
use Rattle.ps_allpass_channels.specs.Channels.{channel_then, decorrelated, matrix_then, side_at}
use Rattle.ps_allpass_channels.specs.Desks.{lanes_of, Lies, Left}
use Rattle.ps_allpass_channels.specs.Slots.{side_then, Passed, Mixed, Reached}
use Rattle.ps_allpass_channels.proofs.Synthesis.{synthesised_same}

module _ (l : Layout) (timing : Timing) (table : List ℤ) (samples gains rows input delays₀ : List Float) where
  abbrev then : ℕ → ℕ → Channel
  then k n = channel_then l timing table samples gains rows input delays₀ k n

  none_mixed : (side : Bool → Matrix → Complex → Complex → Complex) (xs : List Float) → Mixed l timing table samples gains rows input delays₀ side 0 xs xs
  none_mixed side xs = record { long = refl; inside = λ m q u v. absurd (omega arith); above = λ m q u v. refl; behind = λ m q u v. refl }

  pub none : (left right : List Float) → Reached l timing table samples gains rows input delays₀ 0 left right delays₀ left right
  unfolding channel_then channel_at channel_of
  none left right =
      record {
        holds = λ k u. rw (add-zero timing.turn) (holds_read timing.turn (lane_of delays₀ k));
        long = refl;
        behind = refl;
        on_left = none_mixed left_of left;
        on_right = none_mixed right_of right;
      }

  pub all : (n : ℕ) (left₀ right₀ delays left right : List Float) → n ≡ timing.slots
      → Reached l timing table samples gains rows input delays₀ n left₀ right₀ delays left right
      → Reached l timing table samples gains rows input delays₀ timing.slots left₀ right₀ delays left right
  all n left₀ right₀ delays left right whole r =
      subst (λ (m : ℕ). Reached l timing table samples gains rows input delays₀ m left₀ right₀ delays left right) whole r

  -- ---- one slot more
  module _ (n : ℕ) (t : Float) (held : Bool) (desks : List Float) (laid : Lies l chain_on desks (chain_from table l))
      (placed : Lies l (matrix_on t held) desks (λ k. matrix_then l timing table samples gains rows input delays₀ (band_of l k) n)) where
    lane : (k : ℕ) → k < all_pass_of l → k < lanes_of l
    lane k u = omega (arith, (bounds l).grouped)

    side_is : (side : Bool → Matrix → Complex → Complex → Complex) (k : ℕ) → k < all_pass_of l
        → side_then l samples gains input n t held desks side (λ j. then j n) k ≡ side_at l timing table samples gains rows input delays₀ side n k
    unfolding side_then side_at decorrelated
    side_is side k u =
        λ i. side (conjugated_of l k) (placed k (lane k u) i) (sample_in l samples input n k)
        (scaled (third_output (laid k (lane k u) i) (then k n)) (get_or gains (32 * band_of l k + n) nan))

    more_mixed : (side : Bool → Matrix → Complex → Complex → Complex) (old now new : List Float) → Mixed l timing table samples gains rows input delays₀ side n old now
        → Left l (side_then l samples gains input n t held desks side (λ j. then j n)) n now new
        → Mixed l timing table samples gains rows input delays₀ side (n + 1) old new
    more_mixed side old now new r s =
        record {
          long = s.long ∙ r.long;
          inside = λ m q u v. in_row_lem m q u v (eqb m n) refl;
          above = λ m q u v. over m q u v (eqb m n) refl;
          behind = λ m q u v. s.behind m q (omega arith) v ∙ r.behind m q (omega arith) v;
        }
      where
        in_row_lem : (m q : ℕ) → m < n + 1 → q < 23 → (b : Bool) → eqb m n ≡ b
            → qmf_at new m q ≡ synthesised l (side_at l timing table samples gains rows input delays₀ side m) q
        in_row_lem m q u v true e =
            let here : m ≡ n = eqb-true m n e in
            rw here (s.inside q v ∙ synthesised_same l _ _ (side_is side) q v)
        in_row_lem m q u v false e =
            let other = eqb-false m n e in
            let less : m < n = omega (arith, other) in
            s.before m q less (omega arith) ∙ r.inside m q less v

        over : (m q : ℕ) → 23 ≤ q → q < 64 → (b : Bool) → eqb m n ≡ b → qmf_at new m q ≡ qmf_at old m q
        over m q u v true e =
            let here : m ≡ n = eqb-true m n e in
            rw here (s.above q u v ∙ r.above n q u v)
        over m q u v false e = aside (eqb-false m n e) (ltb m n) refl
          where
            aside : (m ≡ n → ⊥) → (b : Bool) → ltb m n ≡ b → qmf_at new m q ≡ qmf_at old m q
            aside other true e = s.before m q (ltb-true m n e) v ∙ r.above m q u v
            aside other false e = s.behind m q (omega (arith, other, ltb-false m n e)) v ∙ r.above m q u v

    pub more : (left₀ right₀ delays left right desks' delays' left' right' : List Float)
        → Reached l timing table samples gains rows input delays₀ n left₀ right₀ delays left right
        → Passed l samples gains input n (timing.turn + n) t held desks delays left right desks' delays' left' right'
        → Reached l timing table samples gains rows input delays₀ (n + 1) left₀ right₀ delays' left' right'
    unfolding channel_then channel_at
    more left₀ right₀ delays left right desks' delays' left' right' r s =
        record {
          holds = held_on;
          long = s.long ∙ r.long;
          behind = s.behind ∙ r.behind;
          on_left = more_mixed left_of left₀ left left' r.on_left (s.on_left (λ j. then j n) r.holds);
          on_right = more_mixed right_of right₀ right right' r.on_right (s.on_right (λ j. then j n) r.holds);
        }
      where
        held_on : (k : ℕ) → k < all_pass_of l → Holds (timing.turn + (n + 1)) (lane_of delays' k) (then k (n + 1))
        held_on k u =
            let next : timing.turn + (n + 1) ≡ timing.turn + n + 1 = omega arith in
            rw (next, add-one n)
            (subst (λ (a : Chain). Holds (timing.turn + n + 1) (lane_of delays' k) (channel_after a (then k n) (sample_in l samples input n k))) (laid k (lane k u))
            (s.own k (lane k u) (then k n) (r.holds k u)))
