-- A frame through the queues: the factors are those of the detectors, and so the rows are the definition's. Assumes nothing.
use Prim.Native.Nat.{ℕ, suc, ◌+◌, ◌*◌, ◌/◌, ◌%◌, ◌<◌, ◌≤◌}
use native.Mathlib.Omega.{arith}
use mathlib.Core.Path.{◌≡◌, sym, ap, ◌∙◌}
use mathlib.Core.Bool.{Bool, true, false, cond}
use mathlib.Core.List.{List, ◌++◌}
use borrow.Author.Tests.{lt-ltb, le-leb, lt-leb}
use lib.Ieee.{Float, nan}
use lib.ListN.{length, get_or, drop}
use Rattle.complex.specs.declared.Complex.{Complex}
use Rattle.complex.specs.Operations.{scaled}
use Rattle.layout.specs.declared.Layout.{Layout}
use Rattle.layout.specs.Numbers.{bands_of, channels_of, unsplit_from_of}
use Rattle.layout.proofs.Bounds.{bounds}
use Rattle.lists.proofs.Maps.{tabulate_length, tabulate_at}
use Rattle.lists.proofs.Rows.{rows_same}
use Rattle.ps_decorr_transient.specs.Gains as gains
use Rattle.ps_decorr_transient.specs.Gains.{detectors_with, detector_then, detectors_after, gains_after}
use Rattle.ps_map.specs.Bands.{band_of}
use Rattle.ps_map.proofs.Bands.{band_small}
use Rattle.standard.specs.Channel.{channel_output}
use Rattle.standard.specs.Detector.{ducking}
use Rattle.queue_decorr.specs.declared.QueueDecorr.{QueueDecorr}
use Rattle.queue_decorr.specs.Frame.{rows_with, channel_then, output_of, enough, out_after, state_after}
use Rattle.queue_decorr.specs.Slots.{Lent, output_with, Slotted}
use Rattle.queue_decorr.proofs.Memory.{place_most}
use Rattle.queue_decorr.proofs.Slots.{row_same}

-- rows go by what is written to them
rows_of_same : (l : Layout) (f g : ℕ → ℕ → Complex) (slots : ℕ) (old : List Float) → ((n k : ℕ) → n < slots → k < channels_of l → f n k ≡ g n k)
    → rows_with l f slots old ≡ rows_with l g slots old
unfolding rows_with
rows_of_same l f g slots old same =
    ap (λ (t : List Float). t ++ drop (182 * slots) old) (rows_same _ _ slots (λ n u. row_same (channels_of l) (f n) (g n) _ (λ k v. same n k u v)))

-- what a frame has room for
pub record Room (s : QueueDecorr) (split input out gains₀ : List Float) (count : ℕ) : Type 0 where
  pub queues_long : length s.queues ≡ 1794
  pub detectors_long : length s.detectors ≡ 102
  pub gains_long : length gains₀ ≡ 1088
  pub few : count ≤ 32
  pub input_long : 128 * count ≤ length input
  pub split_long : 64 * unsplit_from_of s.layout ≤ length split
  pub out_long : 182 * count ≤ length out

module _ (s : QueueDecorr) (split input out gains₀ : List Float) (count : ℕ) (r : Room s split input out gains₀ count) where
  abbrev l : Layout
  l = s.layout

  abbrev factors : List Float
  factors = gains_after l s.detectors split input gains₀ count

  ducks : gains.enough l s.detectors split input gains₀ count ≡ true
  ducks =
      rw (
        le-leb (128 * count) (length input) r.input_long,
        le-leb (64 * unsplit_from_of l) (length split) r.split_long,
        le-leb (32 * bands_of l) (length gains₀) (omega (arith, r.gains_long, (bounds l).bands)),
        le-leb (3 * bands_of l) (length s.detectors) (omega (arith, r.detectors_long, (bounds l).bands)),
      )

  factors_long : length factors ≡ 1088
  unfolding gains_after
  factors_long = rw ducks (tabulate_length _ (length gains₀) ∙ r.gains_long)

  factor_is : (b n : ℕ) → b < bands_of l → n < count → get_or factors (32 * b + n) nan ≡ ducking (detector_then l s.detectors split input b (suc n))
  unfolding gains_after
  factor_is b n u v =
      let row : (32 * b + n) / 32 ≡ b = omega (arith, r.few) in
      let place : (32 * b + n) % 32 ≡ n = omega (arith, r.few) in
      rw ducks
      (tabulate_at _ (length gains₀) (32 * b + n) nan (omega (arith, r.gains_long, r.few, (bounds l).bands)) ∙ rw (row, place, lt-ltb b (bands_of l) u, lt-ltb n count v))

  pub detectors_are : detectors_after l s.detectors split input gains₀ count ≡ detectors_with l (λ b. detector_then l s.detectors split input b count) s.detectors
  unfolding detectors_after
  detectors_are = rw ducks

  pub frame_lent : (new : List Float) → new ≡ factors → Lent l split input new s.queues count out
  frame_lent new is =
      record {
        slots_most = r.few;
        split_long = r.split_long;
        input_long = r.input_long;
        gains_long = rw is (omega (arith, factors_long, (bounds l).bands));
        queues_long = omega (arith, r.queues_long, place_most l);
        out_long = r.out_long;
      }

  all_there : enough s split input out count ≡ true
  all_there =
      rw (le-leb (128 * count) (length input) r.input_long, le-leb (64 * unsplit_from_of l) (length split) r.split_long, le-leb (182 * count) (length out) r.out_long)

  outputs_same : (n k : ℕ) → n < count → k < channels_of l → output_with l split input factors s.queues n k ≡ output_of s split input n k
  unfolding output_of
  outputs_same n k u v = ap (scaled (channel_output l k (channel_then l s.queues split input k n))) (factor_is (band_of l k) n (band_small l k) u)

  -- the frame's rows and its state
  module _ (new_gains new_detectors new-queues new-out : List Float) (gains_are : new_gains ≡ factors) (detectors-is : new_detectors ≡ detectors_after l s.detectors split input gains₀ count)
      (slotted : Slotted l split input new_gains s.queues count out new-queues new-out) where
    pub out_is : new-out ≡ out_after s split input out count
    unfolding out_after
    out_is = slotted.out_is ∙ rw gains_are (rows_of_same l (output_with l split input factors s.queues) (output_of s split input) count out outputs_same) ∙ sym (ap (λ (t : Bool). cond t (rows_with l (output_of s split input) count out) out) all_there)

    pub state_is : record { layout = s.layout; cued = s.cued; queues = new-queues; detectors = new_detectors } ≡ state_after s split input out count
    unfolding state_after
    state_is = rw (all_there, slotted.queues_are, detectors-is ∙ detectors_are)

-- ---- a list that is too short changes nothing
module _ (s : QueueDecorr) (split input out : List Float) (count : ℕ) (short : enough s split input out count ≡ false) where
  pub same_out : out ≡ out_after s split input out count
  unfolding out_after
  same_out = rw short

  pub same_state : s ≡ state_after s split input out count
  unfolding state_after
  same_state = rw short

module _ (s : QueueDecorr) (split input out : List Float) (count : ℕ) where
  pub short_input : length input < 128 * count → enough s split input out count ≡ false
  short_input h = rw (lt-leb (128 * count) (length input) h)

  pub short_split : 128 * count ≤ length input → length split < 64 * unsplit_from_of s.layout → enough s split input out count ≡ false
  short_split a h = rw (le-leb (128 * count) (length input) a, lt-leb (64 * unsplit_from_of s.layout) (length split) h)

  pub short_out : 128 * count ≤ length input → 64 * unsplit_from_of s.layout ≤ length split → length out < 182 * count → enough s split input out count ≡ false
  short_out a b h = rw (le-leb (128 * count) (length input) a, le-leb (64 * unsplit_from_of s.layout) (length split) b, lt-leb (182 * count) (length out) h)
