-- The all-pass channels of a frame slot by slot: what one slot does, and what holds after n of them. Assumes nothing.
use Rattle.std.specs.Prelude.{ℕ, ◌+◌, ◌*◌, ◌≤◌, ◌<◌, Bool, List, ◌≡◌, ℤ, Float, length, get_or, drop}
use Rattle.std.specs.Float.{nan}
use Rattle.complex.specs.declared.Complex.{Complex}
use Rattle.complex.specs.Operations.{scaled}
use Rattle.layout.specs.declared.Layout.{Layout}
use Rattle.layout.specs.Numbers.{bands_of, all_pass_of, groups_of, unsplit_from_of}
use Rattle.limits.specs.Limits as limits
use Rattle.planar.specs.Frame.{sample_in, qmf_at}
use Rattle.ps_allpass_groups.specs.Desk.{chain_on, from_on, step_on, matrix_on}
use Rattle.ps_allpass_groups.specs.Rings.{Holds}
use Rattle.ps_decorr_allpass.specs.Memory.{lane_of}
use Rattle.ps_map.specs.Bands.{band_of, conjugated_of}
use Rattle.ps_stereo_slots.specs.declared.Timing.{Timing}
use Rattle.standard.specs.declared.Matrix.{Matrix}
use Rattle.standard.specs.Channel.{Channel, channel_after, third_output}
use Rattle.standard.specs.Hybrid.{synthesised}
use Rattle.standard.specs.Mixing.{left_of, right_of}
use Rattle.ps_allpass_channels.specs.Channels.{channel_then, side_at}
use Rattle.ps_allpass_channels.specs.Desks.{desk_of, lanes_of, Lies, Left}

-- ---- a slot

module _ (l : Layout) (samples gains input : List Float) (n : ℕ) where
  -- one side of channel k, by the constants and coefficients on its desk, where it was c k before
  unfoldable pub side_then : Float → Bool → List Float → (Bool → Matrix → Complex → Complex → Complex) → (ℕ → Channel) → ℕ → Complex
  side_then t held desks side c k =
      side (conjugated_of l k) (desk_of (matrix_on t held) desks k) (sample_in l samples input n k)
      (scaled (third_output (desk_of chain_on desks k) (c k)) (get_or gains (32 * band_of l k + n) nan))

  -- slot n, before which `turn` slots came: constants and coefficients stay, whatever channels the delays held are one slot further, and both rows are theirs
  pub record Passed (turn : ℕ) (t : Float) (held : Bool) (desks₀ delays₀ left₀ right₀ desks delays left right : List Float) : Type 0 where
    pub chain : Lies l chain_on desks (desk_of chain_on desks₀)
    pub from : Lies l from_on desks (desk_of from_on desks₀)
    pub step : Lies l step_on desks (desk_of step_on desks₀)
    pub long : length delays ≡ length delays₀
    pub behind : drop (112 * groups_of l) delays ≡ drop (112 * groups_of l) delays₀
    pub own : (k : ℕ) → k < lanes_of l → (c : Channel) → Holds turn (lane_of delays₀ k) c
        → Holds (turn + 1) (lane_of delays k) (channel_after (desk_of chain_on desks₀ k) c (sample_in l samples input n k))
    pub on_left : (c : ℕ → Channel) → ((k : ℕ) → k < all_pass_of l → Holds turn (lane_of delays₀ k) (c k)) → Left l (side_then t held desks₀ left_of c) n left₀ left
    pub on_right : (c : ℕ → Channel) → ((k : ℕ) → k < all_pass_of l → Holds turn (lane_of delays₀ k) (c k)) → Left l (side_then t held desks₀ right_of c) n right₀ right

-- ---- a frame

-- lists with room for a frame of at most 32 slots, whose turn is below 420
pub record Roomy (l : Layout) (timing : Timing) (samples gains rows input delays left right : List Float) : Type 0 where
  pub few : timing.slots ≤ 32
  pub turn : timing.turn < 420
  pub samples_long : 64 * unsplit_from_of l ≤ length samples
  pub gains_long : 32 * bands_of l ≤ length gains
  pub rows_long : limits.course * bands_of l ≤ length rows
  pub input_long : 128 * timing.slots ≤ length input
  pub delays_long : 112 * groups_of l ≤ length delays
  pub left_long : length left ≡ 128 * timing.slots
  pub right_long : length right ≡ 128 * timing.slots

module _ (l : Layout) (timing : Timing) (table : List ℤ) (samples gains rows input delays₀ : List Float) where
  -- a side after n slots: the bands of these channels are new in so many rows, and all else is as it was
  pub record Mixed (side : Bool → Matrix → Complex → Complex → Complex) (n : ℕ) (old new : List Float) : Type 0 where
    pub long : length new ≡ length old
    pub inside : (m q : ℕ) → m < n → q < 23 → qmf_at new m q ≡ synthesised l (side_at l timing table samples gains rows input delays₀ side m) q
    pub above : (m q : ℕ) → 23 ≤ q → q < 64 → qmf_at new m q ≡ qmf_at old m q
    pub behind : (m q : ℕ) → n ≤ m → q < 64 → qmf_at new m q ≡ qmf_at old m q

  pub record Reached (n : ℕ) (left₀ right₀ delays left right : List Float) : Type 0 where
    pub holds : (k : ℕ) → k < all_pass_of l → Holds (timing.turn + n) (lane_of delays k) (channel_then l timing table samples gains rows input delays₀ k n)
    pub long : length delays ≡ length delays₀
    pub behind : drop (112 * groups_of l) delays ≡ drop (112 * groups_of l) delays₀
    pub on_left : Mixed left_of n left₀ left
    pub on_right : Mixed right_of n right₀ right
