-- Slot after slot: the queues hold the channels of the definition, and each row is theirs. Assumes nothing.
use Prim.Native.Nat.{ℕ, ◌+◌, ◌*◌, ◌<◌, ◌≤◌, ◌-◌}
use native.Mathlib.Omega.{arith}
use mathlib.Core.Path.{◌≡◌, sym, ap, ◌∙◌}
use mathlib.Core.List.{List, [], ◌∷◌, ◌++◌}
use borrow.Author.Tests.{lt-ltb, le-leb}
use lib.Ieee.{Float, nan}
use lib.ListN.{length, get_or, drop}
use Rattle.calls.specs.Near.{NearChannel}
use Rattle.calls.proofs.Channels.{near_channel, near_output}
use Rattle.complex.specs.declared.Complex.{Complex}
use Rattle.complex.specs.Operations.{scaled}
use Rattle.layout.specs.declared.Layout.{Layout}
use Rattle.layout.specs.Numbers.{channels_of, unsplit_from_of}
use Rattle.layout.proofs.Bounds.{bounds}
use Rattle.lists.specs.Part.{part, put}
use Rattle.lists.proofs.Front.{front_lent, front_long}
use Rattle.lists.proofs.Parts.{part_length}
use Rattle.lists.proofs.Rows.{Rowed, rowed_none, rowed_more, rows_same}
use Rattle.planar.specs.Frame.{sample_in}
use Rattle.plain_slots.specs.Rows.{row_with, in_row, samples_after}
use Rattle.ps_map.specs.Bands.{band_of}
use Rattle.standard.specs.Channel.{Channel, chain_of, channel_after, channel_at}
use Rattle.standard.proofs.Channels.{channel_next}
use Rattle.queue_decorr.specs.Queues.{place_of, channel_in, queues_with}
use Rattle.queue_decorr.specs.Frame.{rows_with, channel_then}
use Rattle.queue_decorr.specs.Slots.{SlotDone, stepped, slot_output, Lent, output_with, Slotted}
use Rattle.queue_decorr.proofs.Memory.{with_long, near_with, with_same, with_behind, with_round}
use Rattle.queue_decorr.proofs.Written.{row_length, in_row_lem}

-- a row goes by what is written to it
pub row_same : (count : ℕ) (f g : ℕ → Complex) (old : List Float) → ((k : ℕ) → k < count → f k ≡ g k) → row_with count f old ≡ row_with count g old
unfolding row_with
row_same count f g old same =
    ap (λ (t : List Float). t ++ drop (2 * count) old) (rows_same _ _ count (λ k u. ap (λ (z : Complex). z.re ∷ z.im ∷ []) (same k u)))

-- one slot of two channels that are near
near_after : (l : Layout) (k : ℕ) (c d : Channel) (x : Complex) → NearChannel l k c d → NearChannel l k (channel_after (chain_of l k) c x) (channel_after (chain_of l k) d x)
unfolding channel_at
near_after l k c d x near = near_channel l k (chain_of l k) c d (λ m. x) 1 near

module _ (l : Layout) (split input gains old out₀ : List Float) where
  abbrev then : ℕ → ℕ → Channel
  then n k = channel_then l old split input k n

  abbrev row_at : ℕ → List Float
  row_at n = row_with (channels_of l) (output_with l split input gains old n) (part (182 * n) 182 out₀)

  -- n slots are done
  pub record Done (slots : ℕ) (queues out : List Float) (n : ℕ) : Type 0 where
    pub lent : Lent l split input gains old slots out₀
    pub most : n ≤ slots
    pub queues_are : queues ≡ queues_with l (then n) old
    pub rows_are : Rowed row_at n (182 * n) out₀ out

  pub done_none : (slots : ℕ) → Lent l split input gains old slots out₀ → Done slots old out₀ 0
  unfolding channel_then channel_at
  done_none slots lent = record { lent = lent; most = omega arith; queues_are = sym (with_round l old lent.queues_long); rows_are = rowed_none row_at out₀ }

  module _ {slots : ℕ} {queues out : List Float} {n : ℕ} (r : Done slots queues out n) where
    pub queues_kept : length queues ≡ length old
    queues_kept = ap length r.queues_are ∙ with_long l (then n) old r.lent.queues_long

    pub out_kept : length out ≡ length out₀
    out_kept = front_long r.rows_are.front (omega (arith, r.most, r.lent.out_long))

    abbrev lent_row : List Float
    lent_row = part (182 * n) (182 * n + 182 - 182 * n) out

    was : lent_row ≡ part (182 * n) 182 out₀
    was = front_lent r.rows_are.front 182

    pub row_lent : n < slots → length lent_row ≡ 182
    row_lent u = ap length was ∙ part_length (182 * n) 182 out₀ (omega (arith, r.lent.out_long))

    -- the samples of slot n
    pub samples_are : n < slots → (before : List Float) → length before ≡ 182 → samples_after l n split input before ≡ row_with (channels_of l) (sample_in l split input n) before
    unfolding samples_after
    samples_are u before long =
        rw (
          lt-ltb n 32 (omega (arith, r.lent.slots_most)),
          le-leb (64 * unsplit_from_of l) (length split) r.lent.split_long,
          le-leb (128 * n + 128) (length input) (omega (arith, r.lent.input_long)),
          le-leb (2 * channels_of l) (length before) (omega (arith, long, (bounds l).channels)),
        )

    pub samples_long : (before : List Float) → length before ≡ 182 → length (row_with (channels_of l) (sample_in l split input n) before) ≡ 182
    samples_long before long = row_length (sample_in l split input n) (channels_of l) before (omega (arith, long, (bounds l).channels)) ∙ long

    -- a slot more, from those samples
    module _ (u : n < slots) (before samples new-queues new_row : List Float) (is : samples ≡ row_with (channels_of l) (sample_in l split input n) before)
        (slot : SlotDone l n samples gains queues lent_row new-queues new_row) where
      in_force : (k : ℕ) → k < channels_of l → NearChannel l k (channel_in l queues k) (then n k)
      in_force k v = rw r.queues_are (near_with l (then n) old k v)

      heard : (k : ℕ) → k < channels_of l → in_row samples k ≡ sample_in l split input n k
      heard k v = ap (λ (t : List Float). in_row t k) is ∙ in_row_lem (sample_in l split input n) (channels_of l) before k v

      next : (k : ℕ) → k < channels_of l → NearChannel l k (stepped l n samples gains queues k) (then (n + 1) k)
      unfolding channel_then
      next k v = rw (heard k v, channel_next (chain_of l k) (channel_in l old k) (λ m. sample_in l split input m k) n) (near_after l k (channel_in l queues k) (then n k) (sample_in l split input n k) (in_force k v))

      behind : drop (place_of l (channels_of l)) queues ≡ drop (place_of l (channels_of l)) old
      behind = ap (drop (place_of l (channels_of l))) r.queues_are ∙ with_behind l (then n) old

      out_same : (k : ℕ) → k < channels_of l → slot_output l n samples gains queues k ≡ output_with l split input gains old n k
      out_same k v = ap (λ (z : Complex). scaled z (get_or gains (32 * band_of l k + n) nan)) (near_output l k (channel_in l queues k) (then n k) (in_force k v))

      new_row_is : new_row ≡ row_at n
      new_row_is = slot.row_is ∙ row_same (channels_of l) _ _ lent_row out_same ∙ ap (row_with (channels_of l) (output_with l split input gains old n)) was

      pub done_more : Done slots new-queues (put (182 * n) (182 * n + 182 - 182 * n) out new_row) (n + 1)
      done_more =
          record {
            lent = r.lent;
            most = omega arith;
            queues_are = slot.queues_are ∙ with_same l (stepped l n samples gains queues) (then (n + 1)) queues old next behind;
            rows_are =
                rowed_more r.rows_are 182 new_row new_row_is
                (ap length slot.row_is ∙ row_length (slot_output l n samples gains queues) (channels_of l) lent_row (omega (arith, row_lent u, (bounds l).channels)) ∙ row_lent u)
                (omega arith);
          }

    pub done_all : slots ≤ n → Slotted l split input gains old slots out₀ queues out
    unfolding rows_with
    done_all h =
        let last : n ≡ slots = omega (arith, r.most) in
        record { queues_are = rw last at r.queues_are; out_is = rw last at r.rows_are.front.is }
