-- A span's sides are those of its channels: the coefficients that were made are the standard's, and its bands share a stereo band and a delay.
-- Assumes nothing.
use mathlib.Core.Path.{◌≡◌, sym, ap, ◌∙◌, ap₂}
use mathlib.Core.Bool.{Bool, false}
use mathlib.Core.List.{List}
use Prim.Native.Nat.{ℕ, ◌+◌, ◌-◌, ◌*◌, ◌<◌, ◌≤◌}
use native.Mathlib.Omega.{arith}
use lib.Ieee.{Float, nan}
use lib.ListN.{length, get_or}
use Rattle.complex.specs.declared.Complex.{Complex}
use Rattle.complex.specs.Operations.{scaled}
use Rattle.layout.specs.declared.Layout.{Layout}
use Rattle.layout.specs.Numbers.{all_pass_of, split_of, unsplit_from_of}
use Rattle.layout.proofs.Bounds.{bounds}
use Rattle.limits.specs.Limits as limits
use Rattle.lists.specs.Part.{part}
use Rattle.lists.proofs.Parts.{part_at}
use Rattle.planar.specs.Frame.{matrix_at, qmf_at, qmf_band_of}
use Rattle.ps_map.specs.Bands.{parameter_map, band_of}
use Rattle.ps_stereo_slots.specs.declared.Timing.{Timing}
use Rattle.ps_stereo_slots.specs.Coefficients.{Fractions}
use Rattle.ps_stereo_slots.specs.Slots.{borders_of, border_matrix, runs_after}
use Rattle.ps_stereo_slots.proofs.Interpolating.{coefficients_made, matrix_standard}
use Rattle.standard.specs.declared.Matrix.{Matrix}
use Rattle.standard.specs.Interpolation.{matrix_in}
use Rattle.standard.specs.Mixing.{left_of, right_of}
use Rattle.ps_delay_channels.specs.declared.rows.Delay.{Delay}
use Rattle.ps_delay_channels.specs.Spans.{Before, Frame, Banded, earlier, mixed_at, side_in, side_from}
use Rattle.ps_delay_channels.proofs.Sofar.{banded_none, banded_more, banded_alike}

abbrev Side : Type 0
Side = Bool → Matrix → Complex → Complex → Complex

-- ---- one stereo band

module _ (timing : Timing) (input gains rows fractions : List Float) (shares : Fractions timing.borders timing.count fractions) (band : ℕ) (few : timing.slots ≤ 32) (there : band < 34)
    (room : limits.course * band + limits.course ≤ length rows) (old : List Float) where
  abbrev runs : List Float
  runs = runs_after rows fractions timing.borders timing.count band timing.slots old

  mixed_standard : (side : Side) (d : Delay) (before : List Float) (n q : ℕ) → n < timing.slots
      → mixed_at d before input side (matrix_at runs) (λ m. get_or (part (32 * band) 32 gains) m nan) n q ≡ side_in d before input timing gains rows side band n q
  unfolding mixed_at
  mixed_standard side d before n q h =
      let matrix : matrix_at runs n ≡ matrix_in (borders_of timing.borders timing.count) (border_matrix rows band) n =
      (coefficients_made rows fractions timing.borders timing.count timing.slots band old few).slot there room n h
      ∙ matrix_standard shares (border_matrix rows band) n (omega arith) in
      ap₂ (λ (m : Matrix) (g : Float). side false m (qmf_at input n q) (scaled (earlier d before input n q) g)) matrix (part_at (32 * band) 32 gains n nan (omega arith))

  pub mixed_sides : (d : Delay) (before : List Float) {from count : ℕ} {left right new-left new-right : List Float}
      → Banded from count timing.slots (mixed_at d before input left_of (matrix_at runs) (λ m. get_or (part (32 * band) 32 gains) m nan)) left new-left
      → Banded from count timing.slots (mixed_at d before input right_of (matrix_at runs) (λ m. get_or (part (32 * band) 32 gains) m nan)) right new-right
      → Banded from count timing.slots (side_in d before input timing gains rows left_of band) left new-left
      × Banded from count timing.slots (side_in d before input timing gains rows right_of band) right new-right
  mixed_sides d before a b = (
    banded_alike a (side_in d before input timing gains rows left_of band) (λ n q h u v. mixed_standard left_of d before n q h),
    banded_alike b (side_in d before input timing gains rows right_of band) (λ n q h u v. mixed_standard right_of d before n q h),
  )

-- ---- where a span stands: the channels from k to before `next` of a delay whose first channel is `start`
pub span_before : {d : Delay} {before : List Float} → Before d d.first d.bands before → (start k next : ℕ) → start ≤ k → k < next → next ≤ start + d.bands
    → Before d (d.first + (k - start)) (next - k) before
span_before r start k next low some high =
    record { behind = omega arith; within = omega arith; bands = r.bands; inside = r.inside; room = r.room }

-- outputs that were written are as long as they were
pub framed_on : {slots : ℕ} {input left right : List Float} → Frame slots input left right → (new-left new-right : List Float) → length new-left ≡ length left → length new-right ≡ length right
    → Frame slots input new-left new-right
framed_on f new-left new-right a b = record { few = f.few; input_long = f.input_long; left_long = a ∙ f.left_long; right_long = b ∙ f.right_long }

-- ---- spans side by side: the channels from `start` to before k have come

module _ (timing : Timing) (input gains rows before : List Float) (map : List ℕ) (d : Delay) (start : ℕ) where
  -- a side's sample, with the stereo band that the map has for its channel
  abbrev side_by : Side → ℕ → ℕ → Complex
  side_by side n q = side_in d before input timing gains rows side (get_or map (start + (q - d.first)) 0) n q

  pub record Spanning (k : ℕ) (left right new-left new-right : List Float) : Type 0 where
    pub low : start ≤ k
    pub high : k ≤ start + d.bands
    pub lefts : Banded d.first (k - start) timing.slots (side_by left_of) left new-left
    pub rights : Banded d.first (k - start) timing.slots (side_by right_of) right new-right

  pub spanning_none : (left right : List Float) → Spanning start left right left right
  spanning_none left right =
      let none : start - start ≡ 0 = omega arith in
      record {
        low = omega arith;
        high = omega arith;
        lefts = rw none (banded_none d.first timing.slots _ left);
        rights = rw none (banded_none d.first timing.slots _ right);
      }

  module _ (k next band : ℕ) (alike : (j : ℕ) → k ≤ j → j < next → get_or map j 0 ≡ get_or map k 0) (own : band ≡ get_or map k 0) (low : start ≤ k) (some : k < next) where
    one_more : (side : Side) {old mid new : List Float} → Banded d.first (k - start) timing.slots (side_by side) old mid
        → Banded (d.first + (k - start)) (next - k) timing.slots (side_in d before input timing gains rows side band) mid new
        → Banded d.first (next - start) timing.slots (side_by side) old new
    one_more side a b =
        let all : k - start + (next - k) ≡ next - start = omega arith in
        rw all at (banded_more a (d.first + (k - start)) (next - k) (omega arith) (banded_alike b (side_by side)
        (λ n q h u v.
        ap (λ (j : ℕ). side_in d before input timing gains rows side j n q)
        (own ∙ sym (alike (start + (q - d.first)) (omega arith) (omega arith))))))

    pub spanning_more : {left right mid-left mid-right new-left new-right : List Float} → next ≤ start + d.bands → Spanning k left right mid-left mid-right
        → Banded (d.first + (k - start)) (next - k) timing.slots (side_in d before input timing gains rows left_of band) mid-left new-left
        → Banded (d.first + (k - start)) (next - k) timing.slots (side_in d before input timing gains rows right_of band) mid-right new-right
        → Spanning next left right new-left new-right
    spanning_more high r a b = record { low = omega arith; high = high; lefts = one_more left_of r.lefts a; rights = one_more right_of r.rights b }

  -- and at the end all channels of the delay
  pub spanning_all : (l : Layout) → map ≡ parameter_map l → all_pass_of l ≤ start → d.first ≡ qmf_band_of l start
      → (side : Side) {old new : List Float} (k : ℕ) → k ≡ start + d.bands → Banded d.first (k - start) timing.slots (side_by side) old new
      → Banded d.first d.bands timing.slots (side_from d before input timing gains rows side l) old new
  unfolding side_from
  spanning_all l bands above stands side k e b =
      let all : k - start ≡ d.bands = omega arith in
      rw all at (banded_alike b (side_from d before input timing gains rows side l)
      (λ n q h u v.
      let m = bounds l in
      let channel : start + (q - d.first) ≡ q + unsplit_from_of l - split_of l = omega (arith, stands, above) in
      ap (λ (j : ℕ). side_in d before input timing gains rows side j n q) (ap (λ (t : List ℕ). get_or t (start + (q - d.first)) 0) bands ∙ ap (band_of l) channel)))
