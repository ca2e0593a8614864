-- What the loops over slots and channels are lent, and what they leave. Assumes nothing.
use Rattle.std.specs.Prelude.{ℕ, ◌+◌, ◌*◌, ◌<◌, ◌≤◌, List, ◌≡◌, ℤ, Float, length, get_or}
use Rattle.std.specs.Float.{nan}
use Rattle.complex.specs.declared.Complex.{Complex}
use Rattle.complex.specs.Operations.{scaled}
use Rattle.layout.specs.declared.Layout.{Layout}
use Rattle.layout.specs.Numbers.{bands_of, channels_of, unsplit_from_of}
use Rattle.plain_slots.specs.Rows.{in_row, row_with}
use Rattle.ps_map.specs.Bands.{band_of}
use Rattle.standard.specs.Channel.{Channel, rotations_of, chain_of, channel_after, channel_output}
use Rattle.queue_decorr.specs.Queues.{place_of, channel_in, queues_with}
use Rattle.queue_decorr.specs.Frame.{rows_with, channel_then}

-- ---- a slot, of whose factors n is the place in each band's row

module _ (l : Layout) (n : ℕ) where
  pub record SlotLent (table : List ℤ) (samples gains queues row : List Float) : Type 0 where
    pub table_is : table ≡ rotations_of l
    pub slot : n < 32
    pub samples_long : length samples ≡ 182
    pub gains_long : 32 * bands_of l ≤ length gains
    pub queues_long : place_of l (channels_of l) ≤ length queues
    pub row_long : length row ≡ 182

  module _ (samples gains queues : List Float) where
    -- each channel a slot later, and its output times the factor of its band
    abbrev pub stepped : ℕ → Channel
    stepped k = channel_after (chain_of l k) (channel_in l queues k) (in_row samples k)

    abbrev pub slot_output : ℕ → Complex
    slot_output k = scaled (channel_output l k (channel_in l queues k)) (get_or gains (32 * band_of l k + n) nan)

    pub record SlotDone (row new-queues new_row : List Float) : Type 0 where
      pub queues_are : new-queues ≡ queues_with l stepped queues
      pub row_is : new_row ≡ row_with (channels_of l) slot_output row

-- ---- slot after slot

module _ (l : Layout) (split input gains queues : List Float) where
  pub record Lent (slots : ℕ) (out : List Float) : Type 0 where
    pub slots_most : slots ≤ 32
    pub split_long : 64 * unsplit_from_of l ≤ length split
    pub input_long : 128 * slots ≤ length input
    pub gains_long : 32 * bands_of l ≤ length gains
    pub queues_long : place_of l (channels_of l) ≤ length queues
    pub out_long : 182 * slots ≤ length out

  abbrev pub output_with : ℕ → ℕ → Complex
  output_with n k = scaled (channel_output l k (channel_then l queues split input k n)) (get_or gains (32 * band_of l k + n) nan)

  pub record Slotted (slots : ℕ) (out new-queues new-out : List Float) : Type 0 where
    pub queues_are : new-queues ≡ queues_with l (λ k. channel_then l queues split input k slots) queues
    pub out_is : new-out ≡ rows_with l output_with slots out
