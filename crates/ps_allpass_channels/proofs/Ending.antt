-- After the last slot the delays and both sides are those of the frame, also where its count of slots started anew; a frame that does not fit changes
-- nothing. Assumes nothing.
use Prim.Native.Nat.{ℕ, ◌+◌, ◌*◌, ◌/◌, ◌%◌, ◌<◌, min}
use native.Mathlib.Omega.{arith}
use mathlib.Core.Path.{◌≡◌, refl, ap, ◌∙◌}
use mathlib.Core.Bool.{Bool, true, false, cond}
use mathlib.Core.List.{List}
use borrow.Author.Tests.{ltb-true, ltb-false, eq-eqb, le-leb}
use lib.Dec.{ltb}
use lib.IntN.{ℤ}
use lib.Ieee.{Float, nan}
use lib.ListN.{length, get_or}
use Rattle.complex.specs.declared.Complex.{Complex}
use Rattle.complex.specs.Operations.{scaled}
use Rattle.layout.specs.declared.Layout.{Layout}
use Rattle.layout.specs.Numbers.{bands_of, all_pass_of, groups_of, unsplit_from_of}
use Rattle.layout.proofs.Bounds.{bounds}
use Rattle.limits.specs.Limits as limits
use Rattle.lists.specs.Part.{part, put}
use Rattle.planar.specs.Frame.{sample_in, qmf_at, qmf_rows, qmf_band_of}
use Rattle.planar.proofs.Rows.{rows_are}
use Rattle.ps_decorr_allpass.specs.Memory.{lane_of, silenced_from, delays_with}
use Rattle.ps_decorr_allpass.proofs.Wraps.{channel_wraps, delays_wraps_on}
use Rattle.ps_map.specs.Bands.{band_of, conjugated_of}
use Rattle.ps_stereo_slots.specs.declared.Timing.{Timing}
use Rattle.standard.specs.declared.Matrix.{Matrix}
use Rattle.standard.specs.Channel.{Channel, chain_from, channel_at, third_output}
use Rattle.standard.specs.Hybrid.{synthesised}
use Rattle.standard.specs.Mixing.{left_of, right_of}
use Rattle.ps_allpass_channels.specs.Channels.{channel_then, decorrelated, matrix_then, side_at, side_rows, fits, left_after, right_after, delays_after}
use Rattle.ps_allpass_channels.specs.Slots.{Roomy, Mixed, Reached}
use Rattle.ps_allpass_channels.proofs.Carried.{delays_are}
use Rattle.ps_allpass_channels.proofs.Freeing.{freed}

-- ---- a frame that was run
module _ (l : Layout) (timing : Timing) (table : List ℤ) (samples gains rows input delays₀ : List Float) where
  side_rows_lem : (side : Bool → Matrix → Complex → Complex → Complex) (slots : ℕ) (old new : List Float) → length old ≡ 128 * slots
      → Mixed l timing table samples gains rows input delays₀ side slots old new → new ≡ side_rows l timing table samples gains rows input delays₀ side slots old
  unfolding side_rows
  side_rows_lem side slots old new size r = rows_are _ slots new (r.long ∙ size) (λ n q u v. each n q u v (ltb q (qmf_band_of l (all_pass_of l))) refl)
    where
      each : (n q : ℕ) → n < slots → q < 64 → (b : Bool) → ltb q (qmf_band_of l (all_pass_of l)) ≡ b
          → qmf_at new n q ≡ cond b (synthesised l (side_at l timing table samples gains rows input delays₀ side n) q) (qmf_at old n q)
      each n q u v true e =
          let low = ltb-true q (qmf_band_of l (all_pass_of l)) e in
          r.inside n q u (omega (arith, low, (bounds l).delayed))
      each n q u v false e =
          let high = ltb-false q (qmf_band_of l (all_pass_of l)) e in
          r.above n q (omega (arith, high, (bounds l).delayed)) v

  abbrev pub Framed : List Float → List Float → List Float → List Float → List Float → Type 0
  Framed left₀ right₀ delays left right =
      (left ≡ side_rows l timing table samples gains rows input delays₀ left_of timing.slots left₀)
      × ((right ≡ side_rows l timing table samples gains rows input delays₀ right_of timing.slots right₀)
      × (delays ≡ delays_with l (timing.turn + timing.slots) (λ k. channel_then l timing table samples gains rows input delays₀ k timing.slots) delays₀))

  pub framed : (left₀ right₀ delays left right : List Float) → Roomy l timing samples gains rows input delays₀ left₀ right₀
      → Reached l timing table samples gains rows input delays₀ timing.slots left₀ right₀ delays left right
      → Framed left₀ right₀
      (put (112 * (all_pass_of l / 4)) 112 delays (silenced_from (λ m. m % 4) (all_pass_of l % 4) (part (112 * (all_pass_of l / 4)) 112 delays))) left right
  framed left₀ right₀ delays left right room r = (
    side_rows_lem left_of timing.slots left₀ left room.left_long r.on_left,
    (
      side_rows_lem right_of timing.slots right₀ right room.right_long r.on_right,
      delays_are l (timing.turn + timing.slots) _ delays₀ delays _ r.holds r.long r.behind (freed l delays (omega (arith, r.long, room.delays_long))),
    ),
  )

-- ---- what comes out
module _ (l : Layout) (timing : Timing) (table : List ℤ) (samples gains rows input delays left right : List Float) where
  abbrev pub Outcome : List Float → List Float → List Float → Type 0
  Outcome new-delays new-left new-right =
      (new-left ≡ left_after l timing table samples gains rows input delays left right)
      × ((new-right ≡ right_after l timing table samples gains rows input delays left right)
      × (new-delays ≡ delays_after l timing table samples gains rows input delays left right))

  pub unfit : fits l timing table samples gains rows input delays left right ≡ false → Outcome delays left right
  unfolding left_after right_after delays_after
  unfit h = (rw h, (rw h, rw h))

-- ---- a frame whose slots and turn are cut
abbrev pub cut_to : ℕ → Timing → Timing
cut_to slots timing = record { borders = timing.borders; count = timing.count; slots = slots; turn = timing.turn % 420 }

module _ (l : Layout) (timing : Timing) (table : List ℤ) (samples gains rows input delays : List Float) (slots : ℕ) where
  then_anew : (k n : ℕ) → channel_then l (cut_to slots timing) table samples gains rows input delays k n ≡ channel_then l timing table samples gains rows input delays k n
  unfolding channel_then
  then_anew k n = ap (λ (c : Channel). channel_at (chain_from table l k) c (λ m. sample_in l samples input m k) n) (channel_wraps timing.turn (lane_of delays k))

  side_anew : (side : Bool → Matrix → Complex → Complex → Complex) (n k : ℕ)
      → side_at l (cut_to slots timing) table samples gains rows input delays side n k ≡ side_at l timing table samples gains rows input delays side n k
  unfolding side_at decorrelated matrix_then
  side_anew side n k =
      ap (λ (c : Channel).
      side (conjugated_of l k) (matrix_then l timing table samples gains rows input delays (band_of l k) n) (sample_in l samples input n k)
      (scaled (third_output (chain_from table l k) c) (get_or gains (32 * band_of l k + n) nan))) (then_anew k n)

  rows_anew : (side : Bool → Matrix → Complex → Complex → Complex) (old : List Float)
      → side_rows l (cut_to slots timing) table samples gains rows input delays side slots old ≡ side_rows l timing table samples gains rows input delays side slots old
  unfolding side_rows
  rows_anew side old =
      λ i. qmf_rows slots (λ n q. cond (ltb q (qmf_band_of l (all_pass_of l))) (synthesised l (λ k. side_anew side n k i) q) (qmf_at old n q))

  all_anew : delays_with l (timing.turn % 420 + slots) (λ k. channel_then l (cut_to slots timing) table samples gains rows input delays k slots) delays
      ≡ delays_with l (timing.turn + slots) (λ k. channel_then l timing table samples gains rows input delays k slots) delays
  all_anew =
      (λ i. delays_with l (timing.turn % 420 + slots) (λ k. then_anew k slots i) delays)
      ∙ delays_wraps_on timing.turn slots l (λ k. channel_then l timing table samples gains rows input delays k slots) delays

  module _ (left right : List Float) (counted : slots ≡ min timing.slots 32) (room : Roomy l (cut_to slots timing) samples gains rows input delays left right) where
    fit : fits l timing table samples gains rows input delays left right ≡ true
    fit =
        rw (
          eq-eqb (length left) (128 * min timing.slots 32) (rw (← counted) room.left_long),
          eq-eqb (length right) (128 * min timing.slots 32) (rw (← counted) room.right_long),
          le-leb (128 * min timing.slots 32) (length input) (rw (← counted) room.input_long),
          le-leb (64 * unsplit_from_of l) (length samples) room.samples_long,
          le-leb (32 * bands_of l) (length gains) room.gains_long,
          le-leb (limits.course * bands_of l) (length rows) room.rows_long,
          le-leb (112 * groups_of l) (length delays) room.delays_long,
        )

    pub done : (new-delays new-left new-right : List Float)
        → Framed l (cut_to slots timing) table samples gains rows input delays left right new-delays new-left new-right
        → Outcome l timing table samples gains rows input delays left right new-delays new-left new-right
    unfolding left_after right_after delays_after
    done new-delays new-left new-right r = (
      rw (fit, ← counted) (r.0 ∙ rows_anew left_of left),
      (rw (fit, ← counted) (r.1.0 ∙ rows_anew right_of right), rw (fit, ← counted) (r.1.1 ∙ all_anew)),
    )
