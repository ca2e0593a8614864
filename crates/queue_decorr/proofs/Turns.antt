-- The channels of a slot, one after the other: each takes its numbers from the queues as they were, and writes its own. Assumes nothing.
use Prim.Native.Nat.{ℕ, ◌+◌, ◌*◌, ◌<◌, ◌≤◌, ◌-◌}
use native.Mathlib.Omega.{arith}
use mathlib.Core.Path.{◌≡◌, refl, sym, ap, ◌∙◌}
use mathlib.Core.List.{List, [], ◌∷◌}
use lib.IntN.{ℤ}
use lib.Ieee.{Float, nan}
use lib.ListN.{length, get_or, set}
use Rattle.complex.specs.declared.Complex.{Complex}
use Rattle.complex.specs.Operations.{scaled}
use Rattle.layout.specs.declared.Layout.{Layout}
use Rattle.layout.specs.Numbers.{channels_of}
use Rattle.layout.proofs.Bounds.{bounds}
use Rattle.lists.specs.Part.{part, put}
use Rattle.lists.proofs.Parts.{part_length}
use Rattle.lists.proofs.Front.{front_lent, front_long}
use Rattle.lists.proofs.Rows.{Rowed, rowed_none, rowed_more, rowed_pair}
use Rattle.plain_slots.specs.Rows.{row_with, in_row}
use Rattle.ps_map.specs.Bands.{parameter_map, band_of}
use Rattle.ps_map.proofs.Bands.{band_small}
use Rattle.standard.specs.Channel.{chain_of, channel_after, channel_output}
use Rattle.queue_decorr.specs.Queues.{numbers_of, channel_from, size_of, place_of, queues_with}
use Rattle.queue_decorr.specs.Slots.{SlotLent, SlotDone, stepped, slot_output}
use Rattle.queue_decorr.proofs.Numbers.{numbers_length}
use Rattle.queue_decorr.proofs.Memory.{place_next, place_rises, place_room, place_most, size_most}

module _ (l : Layout) (n : ℕ) (samples gains old : List Float) where
  abbrev new_numbers : ℕ → List Float
  new_numbers k = numbers_of l k (stepped l n samples gains old k)

  abbrev new_pair : ℕ → List Float
  new_pair k = (slot_output l n samples gains old k).re ∷ (slot_output l n samples gains old k).im ∷ []

  -- k channels are done, whose numbers end at `at`
  pub record Going (table : List ℤ) (row₀ : List Float) (map : List ℕ) (end : ℕ) (queues row : List Float) (at k : ℕ) : Type 0 where
    pub lent : SlotLent l n table samples gains old row₀
    pub map_is : map ≡ parameter_map l
    pub end_is : end ≡ channels_of l
    pub most : k ≤ end
    pub place : at ≡ place_of l k
    pub queued : Rowed new_numbers k at old queues
    pub written : Rowed new_pair k (2 * k) row₀ row

  module _ {table : List ℤ} {row₀ : List Float} {map : List ℕ} {end : ℕ} where
    pub going_none : SlotLent l n table samples gains old row₀ → map ≡ parameter_map l → end ≡ channels_of l → Going table row₀ map end old row₀ 0 0
    going_none lent map_is end_is =
        record {
          lent = lent;
          map_is = map_is;
          end_is = end_is;
          most = omega arith;
          place = omega arith;
          queued = rowed_none new_numbers old;
          written = rowed_none new_pair row₀;
        }

    module _ {queues row : List Float} {at k : ℕ} (g : Going table row₀ map end queues row at k) where
      -- what a turn finds room for
      pub record Room : Type 0 where
        pub few : k < 91
        pub low : at ≤ 1794
        pub small : size_of l k ≤ 28
        pub samples_room : 2 * k + 1 < length samples
        pub row_long : length row ≡ 182
        pub queues_long : length queues ≡ length old
        pub part_room : at + size_of l k ≤ length queues
        pub band : get_or map k 0 ≡ band_of l k
        pub band_few : band_of l k < 34
        pub gains_room : 32 * band_of l k + n < length gains
        pub slot : n < 32

      pub room : k < end → Room
      room u =
          let b = bounds l in
          let inside : k < channels_of l = omega (arith, g.end_is) in
          let r = place_room l k (channels_of l) inside in
          let s = g.lent in
          let long = front_long g.queued.front (omega (arith, r, s.queues_long, g.place)) in
          let wide = front_long g.written.front (omega (arith, b.channels, s.row_long, inside)) in
          record {
            few = omega (arith, b.channels, inside);
            low = omega (arith, g.place, r, place_most l);
            small = size_most l k;
            samples_room = omega (arith, b.channels, inside, s.samples_long);
            row_long = wide ∙ s.row_long;
            queues_long = long;
            part_room = omega (arith, long, r, s.queues_long, g.place);
            band = ap (λ (m : List ℕ). get_or m k 0) g.map_is;
            band_few = omega (arith, band_small l k, b.bands);
            gains_room = omega (arith, band_small l k, s.gains_long, s.slot);
            slot = s.slot;
          }

      -- the part that is lent is as it was
      abbrev lent_part : List Float
      lent_part = part at (at + size_of l k - at) queues

      was : lent_part ≡ part (place_of l k) (size_of l k) old
      was = front_lent g.queued.front (size_of l k) ∙ ap (λ (p : ℕ). part p (size_of l k) old) g.place

      pub lent_long : k < end → length lent_part ≡ size_of l k
      lent_long u = ap length was ∙ part_length (place_of l k) (size_of l k) old (omega (arith, place_room l k (channels_of l) (omega (arith, g.end_is)), g.lent.queues_long))

      -- and once it is back, a channel more is done
      pub going_more : k < end → (ys : List Float) (y d : Complex)
          → ys ≡ numbers_of l k (channel_after (chain_of l k) (channel_from l k lent_part) (in_row samples k))
          → y ≡ channel_output l k (channel_from l k lent_part) → d ≡ scaled y (get_or gains (32 * get_or map k 0 + n) nan)
          → Going table row₀ map end (put at (at + size_of l k - at) queues ys) (set (set row (2 * k) d.re) (2 * k + 1) d.im) (at + size_of l k) (k + 1)
      going_more u ys y d is out ducked =
          let new : ys ≡ new_numbers k = rw was at is in
          let band : get_or map k 0 ≡ band_of l k = ap (λ (m : List ℕ). get_or m k 0) g.map_is in
          let wrote : d ≡ slot_output l n samples gains old k = ducked ∙ rw (out, was, band) in
          let wide : length row₀ ≡ 182 = g.lent.row_long in
          record {
            lent = g.lent;
            map_is = g.map_is;
            end_is = g.end_is;
            most = omega arith;
            place = ap (λ (p : ℕ). p + size_of l k) g.place ∙ sym (place_next l k);
            queued = rowed_more g.queued (size_of l k) ys new (ap length new ∙ numbers_length l k _) refl;
            written = rowed_pair g.written d.re d.im (ap (λ (z : Complex). z.re ∷ z.im ∷ []) wrote) (omega (arith, wide, g.end_is, (bounds l).channels)) (omega arith);
          }

      -- both lists keep their lengths
      pub done_long : (length queues ≡ length old) × (length row ≡ length row₀)
      done_long =
          let b = bounds l in
          let r = place_rises l k (channels_of l) (omega (arith, g.most, g.end_is)) in (
            front_long g.queued.front (omega (arith, r, g.lent.queues_long, g.place)),
            front_long g.written.front (omega (arith, b.channels, g.lent.row_long, g.most, g.end_is)),
          )

      pub going_all : end ≤ k → SlotDone l n samples gains old row₀ queues row
      unfolding queues_with row_with
      going_all h =
          let last : k ≡ channels_of l = omega (arith, g.end_is, g.most) in
          record { queues_are = g.queued.front.is ∙ rw (g.place, last); row_is = g.written.front.is ∙ rw last }
