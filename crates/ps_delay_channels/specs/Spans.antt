-- Spans: QMF bands side by side that share a stereo band and a delay. What the crate's functions over them ask and answer. Assumes nothing.
use Rattle.std.specs.Prelude.{ℕ, ◌+◌, ◌-◌, ◌*◌, ◌%◌, ◌<◌, ◌≤◌, Bool, false, cond, List, ◌≡◌, ltb, Float, length, get_or}
use Rattle.std.specs.Float.{nan}
use Rattle.complex.specs.declared.Complex.{Complex}
use Rattle.complex.specs.Operations.{scaled}
use Rattle.layout.specs.declared.Layout.{Layout}
use Rattle.layout.specs.Numbers.{split_of, unsplit_from_of}
use Rattle.planar.specs.Cells.{cell}
use Rattle.planar.specs.Frame.{qmf_at}
use Rattle.ps_map.specs.Bands.{band_of}
use Rattle.ps_stereo_slots.specs.declared.Timing.{Timing}
use Rattle.ps_stereo_slots.specs.Slots.{borders_of, border_matrix}
use Rattle.standard.specs.declared.Matrix.{Matrix}
use Rattle.standard.specs.Interpolation.{matrix_in}
use Rattle.ps_delay_channels.specs.declared.rows.Delay.{Delay}

-- ---- delays by rows

-- both delays: of 14 slots in a ring of 14 rows, and of one slot in one row
abbrev pub long_delay : ℕ → Delay
long_delay position = record { slots = 14; first = 23; bands = 12; position = position }

abbrev pub short_delay : Delay
short_delay = record { slots = 1; first = 35; bands = 29; position = 0 }

-- some of a delay's QMF bands, from `from` on, and its memory's rows, 24 numbers apart: slot n of a frame reads the one at position + n modulo 14
pub record Before (d : Delay) (from count : ℕ) (before : List Float) : Type 0 where
  pub behind : d.first ≤ from
  pub within : from + count ≤ d.first + d.bands
  pub bands : d.first + d.bands ≤ 64
  pub inside : d.position < 14
  pub room : (n : ℕ) → n < d.slots → 24 * ((d.position + n) % 14) + 2 * d.bands ≤ length before

-- ---- mixing by rows

-- a frame's rows in the input and in both sides
pub record Frame (slots : ℕ) (input left right : List Float) : Type 0 where
  pub few : slots ≤ 32
  pub input_long : 128 * slots ≤ length input
  pub left_long : length left ≡ 128 * slots
  pub right_long : length right ≡ 128 * slots

-- rows of which the bands from `from` on, `count` of them, are f's, and all else is as it was
pub record Banded (from count slots : ℕ) (f : ℕ → ℕ → Complex) (old new : List Float) : Type 0 where
  pub long : length new ≡ length old
  pub inside : (n q : ℕ) → n < slots → from ≤ q → q < from + count → qmf_at new n q ≡ f n q
  pub below : (n q : ℕ) → n < slots → q < from → qmf_at new n q ≡ qmf_at old n q
  pub above : (n q : ℕ) → n < slots → from + count ≤ q → q < 64 → qmf_at new n q ≡ qmf_at old n q

module _ (d : Delay) (before input : List Float) where
  -- what came before slot n of QMF band q by the delay
  unfoldable pub earlier : ℕ → ℕ → Complex
  earlier n q = cond (ltb n d.slots) (cell 1 before (24 * ((d.position + n) % 14) + 2 * (q - d.first))) (qmf_at input (n - d.slots) q)

  -- a side's sample of it, from the slots' coefficients and factors
  unfoldable pub mixed_at : (Bool → Matrix → Complex → Complex → Complex) → (ℕ → Matrix) → (ℕ → Float) → ℕ → ℕ → Complex
  mixed_at side matrix factor n q = side false (matrix n) (qmf_at input n q) (scaled (earlier n q) (factor n))

  module _ (timing : Timing) (gains rows : List Float) (side : Bool → Matrix → Complex → Complex → Complex) where
    -- from those of a stereo band in the frame
    abbrev pub side_in : ℕ → ℕ → ℕ → Complex
    side_in band = mixed_at side (matrix_in (borders_of timing.borders timing.count) (border_matrix rows band)) (λ n. get_or gains (32 * band + n) nan)

    -- from those of the stereo band of its channel
    unfoldable pub side_from : Layout → ℕ → ℕ → Complex
    side_from l n q = side_in (band_of l (q + unsplit_from_of l - split_of l)) n q
