-- A slot of a layout's groups of four all-pass channels: each channel is one slot further, and both its sides stand on its group's desk. Assumes nothing.
use Rattle.std.specs.Prelude.{ℕ, ◌+◌, ◌*◌, ◌≤◌, ◌<◌, Bool, List, ◌≡◌, Float, length, take, drop}
use Rattle.complex.specs.declared.Complex.{Complex}
use Rattle.complex.specs.Operations.{scaled}
use Rattle.layout.specs.declared.Layout.{Layout}
use Rattle.layout.specs.Numbers.{groups_of}
use Rattle.lists.specs.Part.{part}
use Rattle.planar.specs.Lanes.{on}
use Rattle.ps_map.specs.Bands.{conjugated_of}
use Rattle.standard.specs.declared.Matrix.{Matrix}
use Rattle.standard.specs.Channel.{Channel, channel_after, third_output}
use Rattle.standard.specs.Mixing.{left_of, right_of}
use Rattle.ps_allpass_groups.specs.Desk.{chain_on, matrix_on, sample_on, duck_on, left_on, right_on}
use Rattle.ps_allpass_groups.specs.Rings.{Holds}

-- a side of lane i in a slot, of a channel c
unfoldable pub side_on : (Bool → Matrix → Complex → Complex → Complex) → Float → Bool → Bool → ℕ → List Float → Channel → Complex
side_on side t held mark i desk c = side mark (matrix_on t held i desk) (sample_on i desk) (scaled (third_output (chain_on i desk) c) (duck_on i desk))

-- a group one slot later, after `turn` slots, whatever channels it held; all but the sides of its desk stay
pub record Grouped (turn : ℕ) (t : Float) (held : Bool) (mark : ℕ → Bool) (part₀ desk₀ part₁ desk₁ : List Float) : Type 0 where
  pub own : (i : ℕ) → i < 4 → (c : Channel) → Holds turn (on i part₀) c → Holds (turn + 1) (on i part₁) (channel_after (chain_on i desk₀) c (sample_on i desk₀))
  pub left : (i : ℕ) → i < 4 → (c : Channel) → Holds turn (on i part₀) c → left_on i desk₁ ≡ side_on left_of t held (mark i) i desk₀ c
  pub right : (i : ℕ) → i < 4 → (c : Channel) → Holds turn (on i part₀) c → right_on i desk₁ ≡ side_on right_of t held (mark i) i desk₀ c
  pub kept : take 120 desk₁ ≡ take 120 desk₀

-- all groups of a layout; what lies behind them stays
pub record AllGrouped (l : Layout) (turn : ℕ) (t : Float) (held : Bool) (delays₀ desks₀ delays desks : List Float) : Type 0 where
  pub done : (g : ℕ) → g < groups_of l → Grouped turn t held (λ i. conjugated_of l (4 * g + i))
      (part (112 * g) 112 delays₀) (part (136 * g) 136 desks₀) (part (112 * g) 112 delays) (part (136 * g) 136 desks)
  pub long : length delays ≡ length delays₀
  pub desks_long : length desks ≡ length desks₀
  pub behind : drop (112 * groups_of l) delays ≡ drop (112 * groups_of l) delays₀
  pub desks_behind : drop (136 * groups_of l) desks ≡ drop (136 * groups_of l) desks₀

-- delays and desks with room for the layout's groups; nothing changes where they have none
pub record Slotted (l : Layout) (turn : ℕ) (t : Float) (held : Bool) (delays₀ desks₀ delays desks : List Float) : Type 0 where
  pub roomy : 112 * groups_of l ≤ length delays₀ → 136 * groups_of l ≤ length desks₀ → AllGrouped l turn t held delays₀ desks₀ delays desks
  pub narrow : length delays₀ < 112 * groups_of l → (delays ≡ delays₀) × (desks ≡ desks₀)
  pub narrow_desks : length desks₀ < 136 * groups_of l → (delays ≡ delays₀) × (desks ≡ desks₀)
