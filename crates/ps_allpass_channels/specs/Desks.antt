-- The desks of all groups in one list: channel k has lane k mod 4 of desk k / 4. What is laid on them, and what is taken off. Assumes nothing.
use Rattle.std.specs.Prelude.{ℕ, ◌+◌, ◌*◌, ◌/◌, ◌%◌, ◌≤◌, ◌<◌, List, ◌≡◌, Float, length}
use Rattle.complex.specs.declared.Complex.{Complex}
use Rattle.layout.specs.declared.Layout.{Layout}
use Rattle.layout.specs.Numbers.{groups_of}
use Rattle.lists.specs.Part.{part}
use Rattle.planar.specs.Cells.{cell}
use Rattle.planar.specs.Frame.{qmf_at}
use Rattle.ps_allpass_groups.specs.Desk.{from_on, step_on}
use Rattle.ps_map.specs.Bands.{band_of}
use Rattle.ps_stereo_slots.specs.Regions.{step_of}
use Rattle.ps_stereo_slots.specs.Slots.{border_matrix}
use Rattle.standard.specs.Hybrid.{synthesised}

-- what stands there for channel k: its chain by `chain_on`, its sample by `sample_on`, and so on
unfoldable pub desk_of : {A : Type 0} → (ℕ → List Float → A) → List Float → ℕ → A
desk_of read desks k = read (k % 4) (part (136 * (k / 4)) 136 desks)

-- a layout's channels with a desk: all-pass ones, and up to three more that fill the last group
abbrev pub lanes_of : Layout → ℕ
lanes_of l = 4 * groups_of l

-- for each of them it is this
abbrev pub Lies : {A : Type 0} → Layout → (ℕ → List Float → A) → List Float → (ℕ → A) → Type 0
Lies l read desks value = (k : ℕ) → k < lanes_of l → desk_of read desks k ≡ value k

-- the coefficients of a region, from one border to another
pub record Wayed (l : Layout) (rows : List Float) (e next : ℕ) (desks : List Float) : Type 0 where
  pub from : Lies l from_on desks (λ k. border_matrix rows (band_of l k) e)
  pub step : Lies l step_on desks (λ k. step_of (border_matrix rows (band_of l k) e) (border_matrix rows (band_of l k) next))

-- channel k's complex number at a place of its desk, as left at 120 and right at 128
abbrev pub standing : List Float → ℕ → ℕ → Complex
standing desks place k = cell 4 desks (136 * (k / 4) + k % 4 + place)

-- the QMF bands of a row from one to before another are these, and the others as they were
pub record Rowed (value : ℕ → Complex) (from to : ℕ) (old new : List Float) : Type 0 where
  pub long : length new ≡ length old
  pub below : (q : ℕ) → q < from → cell 1 new (2 * q) ≡ cell 1 old (2 * q)
  pub each : (q : ℕ) → from ≤ q → q < to → cell 1 new (2 * q) ≡ value q
  pub above : (q : ℕ) → to ≤ q → cell 1 new (2 * q) ≡ cell 1 old (2 * q)

-- slot n of a side: QMF bands 0 to 22 are those of the channels, and all else is as it was
pub record Left (l : Layout) (channel : ℕ → Complex) (n : ℕ) (old new : List Float) : Type 0 where
  pub long : length new ≡ length old
  pub inside : (q : ℕ) → q < 23 → qmf_at new n q ≡ synthesised l channel q
  pub above : (q : ℕ) → 23 ≤ q → q < 64 → qmf_at new n q ≡ qmf_at old n q
  pub before : (m q : ℕ) → m < n → q < 64 → qmf_at new m q ≡ qmf_at old m q
  pub behind : (m q : ℕ) → n < m → q < 64 → qmf_at new m q ≡ qmf_at old m q
