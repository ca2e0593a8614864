-- Within a frame: from two states that agree on band b, two frames that agree on it give it alike. Each step uses the same operations on the same
-- numbers. Assumes nothing.
use Prim.Native.Nat.{ℕ, zero, suc, ◌+◌, ◌≤◌, ◌<◌}
use native.Mathlib.Nat.{le_of_lt, le_refl}
use native.Mathlib.Omega.{arith}
use mathlib.Core.Path.{◌≡◌, refl, sym, ap, ap₂, ◌∙◌}
use mathlib.Core.Bool.{Bool, true, false, not, ◌&&◌, cond}
use mathlib.Core.List.{List}
use lib.Dec.{T, eqb, leb, eqb→eq}
use lib.Ieee.{Float}
use lib.ListN.{length}
use Rattle.complex.specs.declared.Complex.{Complex}
use Rattle.complex.specs.Operations.{scaled, squared_magnitude}
use Rattle.layout.specs.declared.Layout.{Layout}
use Rattle.layout.specs.Numbers.{channels_of}
use Rattle.ps_map.specs.Bands.{band_of, conjugated_of}
use Rattle.standard.specs.declared.Chain.{Chain}
use Rattle.standard.specs.declared.Matrix.{Matrix}
use Rattle.standard.specs.declared.Modes.{Modes}
use Rattle.standard.specs.Numbers.{◌⊕◌}
use Rattle.standard.specs.Channel.{Channel, chain_of, channel_at, channel_output}
use Rattle.standard.specs.Detector.{Detector, power_to, detector_at, ducking}
use Rattle.standard.specs.Mixing.{Cue, Kept, left_of, right_of}
use Rattle.standard.specs.Interpolation.{kept_at, border_at, start, fraction, between, filled_by, matrix_by}
use Rattle.standard.specs.Core.{Head, Frame, envelopes, Core, channel_then, power_then, detector_then, duck, decorrelated, kept_then, matrix_then, left_at, right_at, after}
use Rattle.standard.specs.Isolation.{Same}

-- two states that agree on what band b keeps
pub record Agree (l : Layout) (b : ℕ) (s t : Core) : Type 0 where
  pub layouts : s.layout ≡ t.layout
  pub cueds : s.cued ≡ t.cued
  pub channels : (k : ℕ) → k < channels_of l → band_of l k ≡ b → s.channel k ≡ t.channel k
  pub detectors : s.detector b ≡ t.detector b
  pub kepts : s.kept b ≡ t.kept b

-- ---- a channel, a band's power and its detector

pub channel_same : (chain : Chain) (c : Channel) (x y : ℕ → Complex) (n : ℕ) → ((m : ℕ) → m < n → x m ≡ y m) → channel_at chain c x n ≡ channel_at chain c y n
unfolding channel_at
channel_same chain c x y zero h = refl
channel_same chain c x y (suc n) h =
    let p : channel_at chain c x n ≡ channel_at chain c y n = channel_same chain c x y n (λ m u. h m (omega arith)) in
    let q : x n ≡ y n = h n (le_refl (suc n)) in
    cc

pub power_same : (l : Layout) (b : ℕ) (x y : ℕ → Complex) (j : ℕ) → ((k : ℕ) → k < j → band_of l k ≡ b → x k ≡ y k) → power_to l x b j ≡ power_to l y b j
unfolding power_to
power_same l b x y zero h = refl
power_same l b x y (suc j) h =
    go (eqb (band_of l j) b) (λ (t : T (eqb (band_of l j) b)). h j (le_refl (suc j)) (eqb→eq (band_of l j) b t)) (power_same l b x y j (λ k u. h k (omega arith)))
  where
    go : (t : Bool) → (T t → x j ≡ y j) → power_to l x b j ≡ power_to l y b j
        → cond t (power_to l x b j ⊕ squared_magnitude (x j)) (power_to l x b j) ≡ cond t (power_to l y b j ⊕ squared_magnitude (y j)) (power_to l y b j)
    go true e p = let q : x j ≡ y j = e tt in rw (p, q)
    go false e p = p

pub detector_same : (d : Detector) (p q : ℕ → Float) (n : ℕ) → ((m : ℕ) → m < n → p m ≡ q m) → detector_at d p n ≡ detector_at d q n
unfolding detector_at
detector_same d p q zero h = refl
detector_same d p q (suc n) h =
    let before : detector_at d p n ≡ detector_at d q n = detector_same d p q n (λ m u. h m (omega arith)) in
    let now : p n ≡ q n = h n (le_refl (suc n)) in
    cc

-- ---- a band's coefficients

pub kept_same : (modes : Modes) (c d : ℕ → Cue) (m : Kept) (j : ℕ) → ((e : ℕ) → e < j → c e ≡ d e) → kept_at modes c m j ≡ kept_at modes d m j
unfolding kept_at
kept_same modes c d m zero h = refl
kept_same modes c d m (suc j) h =
    let p : kept_at modes c m j ≡ kept_at modes d m j = kept_same modes c d m j (λ e u. h e (omega arith)) in
    let q : c j ≡ d j = h j (le_refl (suc j)) in
    cc

pub filled_same : (borders : List ℕ) (t : ℕ → ℕ → Float) (g h : ℕ → Matrix) (n j : ℕ) → ((e : ℕ) → e ≤ j → g e ≡ h e) → filled_by borders t g n j ≡ filled_by borders t h n j
unfolding filled_by
filled_same borders t g h n zero same = refl
filled_same borders t g h n (suc j) same =
    let p : g j ≡ h j = same j (omega arith) in
    let q : g (suc j) ≡ h (suc j) = same (suc j) (le_refl (suc j)) in
    let r : filled_by borders t g n j ≡ filled_by borders t h n j = filled_same borders t g h n j (λ e u. same e (omega arith)) in
    rw (p, q, r)

pub matrix_same : (borders : List ℕ) (t : ℕ → ℕ → Float) (g h : ℕ → Matrix) (n : ℕ) → ((e : ℕ) → e ≤ length borders → g e ≡ h e) → matrix_by borders t g n ≡ matrix_by borders t h n
unfolding matrix_by
matrix_same borders t g h n same =
    let p : g (length borders) ≡ h (length borders) = same (length borders) (le_refl (length borders)) in
    let q : filled_by borders t g n (length borders) ≡ filled_by borders t h n (length borders) = filled_same borders t g h n (length borders) same in
    rw (p, q)

-- ---- within one frame

module _ (l : Layout) (b : ℕ) (f g : Frame) (s t : Core) (same : Same l b f g) (agree : Agree l b s t) where
  layout_same : f.head.layout ≡ g.head.layout
  layout_same = ap (λ (h : Head). h.layout) same.heads

  channel_then_lem : (k : ℕ) → k < channels_of l → band_of l k ≡ b → (n : ℕ) → n ≤ f.head.slots → channel_then f s k n ≡ channel_then g t k n
  unfolding channel_then
  channel_then_lem k u e n h =
      channel_same (chain_of f.head.layout k) (s.channel k) (λ m. f.sample m k) (λ m. g.sample m k) n (λ m v. same.samples m k (omega arith) u e)
      ∙ ap (λ (c : Channel). channel_at (chain_of f.head.layout k) c (λ m. g.sample m k) n) (agree.channels k u e)
      ∙ ap (λ (x : Layout). channel_at (chain_of x k) (t.channel k) (λ m. g.sample m k) n) layout_same

  power_then_lem : (n : ℕ) → n < f.head.slots → power_then f b n ≡ power_then g b n
  unfolding power_then
  power_then_lem n h =
      ap (λ (x : Layout). power_to x (f.sample n) b (channels_of x)) same.layout
      ∙ power_same l b (f.sample n) (g.sample n) (channels_of l) (λ k u e. same.samples n k h u e)
      ∙ ap (λ (x : Layout). power_to x (g.sample n) b (channels_of x)) (sym same.layout ∙ layout_same)

  detector_then_lem : (n : ℕ) → n ≤ f.head.slots → detector_then f s b n ≡ detector_then g t b n
  unfolding detector_then
  detector_then_lem n h =
      detector_same (s.detector b) (power_then f b) (power_then g b) n (λ m u. power_then_lem m (omega arith))
      ∙ ap (λ (d : Detector). detector_at d (power_then g b) n) agree.detectors

  duck_same : (n : ℕ) → n < f.head.slots → duck f s b n ≡ duck g t b n
  unfolding duck
  duck_same n h = ap ducking (detector_then_lem (suc n) h)

  decorrelated_same : (n k : ℕ) → n < f.head.slots → k < channels_of l → band_of l k ≡ b → decorrelated f s n k ≡ decorrelated g t n k
  unfolding decorrelated
  decorrelated_same n k h u e =
      ap (λ (x : Layout). scaled (channel_output x k (channel_then f s k n)) (duck f s (band_of x k) n)) same.layout
      ∙ ap (λ (j : ℕ). scaled (channel_output l k (channel_then f s k n)) (duck f s j n)) e
      ∙ ap₂ (λ (c : Channel) (d : Float). scaled (channel_output l k c) d) (channel_then_lem k u e n (le_of_lt h)) (duck_same n h)
      ∙ ap (λ (j : ℕ). scaled (channel_output l k (channel_then g t k n)) (duck g t j n)) (sym e)
      ∙ ap (λ (x : Layout). scaled (channel_output x k (channel_then g t k n)) (duck g t (band_of x k) n)) (sym same.layout ∙ layout_same)

  kept_then_lem : (e : ℕ) → e ≤ envelopes f.head → kept_then f s b e ≡ kept_then g t b e
  unfolding kept_then
  kept_then_lem e h =
      kept_same f.head.modes (λ i. f.cue i b) (λ i. g.cue i b) (s.kept b) e (λ i u. same.cues i (omega arith))
      ∙ ap (λ (m : Kept). kept_at f.head.modes (λ i. g.cue i b) m e) agree.kepts
      ∙ ap (λ (x : Head). kept_at x.modes (λ i. g.cue i b) (t.kept b) e) same.heads

  matrix_then_lem : (n : ℕ) → matrix_then f s b n ≡ matrix_then g t b n
  unfolding matrix_then
  matrix_then_lem n =
      matrix_same f.head.borders (fraction f.head.borders) (λ e. (kept_then f s b e).matrix) (λ e. (kept_then g t b e).matrix) n (λ e u. ap (λ (m : Kept). m.matrix) (kept_then_lem e u))
      ∙ ap (λ (x : Head). matrix_by x.borders (fraction x.borders) (λ e. (kept_then g t b e).matrix) n) same.heads

  -- one of the two sides, as a function of the coefficients, the sample and its de-correlation
  side_same : (side : Bool → Matrix → Complex → Complex → Complex) (n k : ℕ) → n < f.head.slots → k < channels_of l → band_of l k ≡ b
      → side (conjugated_of f.head.layout k) (matrix_then f s (band_of f.head.layout k) n) (f.sample n k) (decorrelated f s n k)
      ≡ side (conjugated_of g.head.layout k) (matrix_then g t (band_of g.head.layout k) n) (g.sample n k) (decorrelated g t n k)
  side_same side n k h u e =
      ap (λ (x : Layout). side (conjugated_of x k) (matrix_then f s (band_of x k) n) (f.sample n k) (decorrelated f s n k)) same.layout
      ∙ ap (λ (j : ℕ). side (conjugated_of l k) (matrix_then f s j n) (f.sample n k) (decorrelated f s n k)) e
      ∙ ap₂ (λ (m : Matrix) (x : Complex). side (conjugated_of l k) m x (decorrelated f s n k)) (matrix_then_lem n) (same.samples n k h u e)
      ∙ ap (λ (d : Complex). side (conjugated_of l k) (matrix_then g t b n) (g.sample n k) d) (decorrelated_same n k h u e)
      ∙ ap (λ (j : ℕ). side (conjugated_of l k) (matrix_then g t j n) (g.sample n k) (decorrelated g t n k)) (sym e)
      ∙ ap (λ (x : Layout). side (conjugated_of x k) (matrix_then g t (band_of x k) n) (g.sample n k) (decorrelated g t n k)) (sym same.layout ∙ layout_same)

  pub left_same : (n k : ℕ) → n < f.head.slots → k < channels_of l → band_of l k ≡ b → left_at f s n k ≡ left_at g t n k
  unfolding left_at
  left_same n k h u e = side_same left_of n k h u e

  pub right_same : (n k : ℕ) → n < f.head.slots → k < channels_of l → band_of l k ≡ b → right_at f s n k ≡ right_at g t n k
  unfolding right_at
  right_same n k h u e = side_same right_of n k h u e

  pub after_same : Agree l b (after f s) (after g t)
  unfolding after
  after_same =
      record {
        layouts = agree.layouts;
        cueds = ap (λ (h : Head). not h.empty) same.heads;
        channels = λ k u e. channel_then_lem k u e f.head.slots (le_refl f.head.slots) ∙ ap (λ (h : Head). channel_then g t k h.slots) same.heads;
        detectors = detector_then_lem f.head.slots (le_refl f.head.slots) ∙ ap (λ (h : Head). detector_then g t b h.slots) same.heads;
        kepts = kept_then_lem (envelopes f.head) (le_refl (envelopes f.head)) ∙ ap (λ (h : Head). kept_then g t b (envelopes h)) same.heads;
      }
