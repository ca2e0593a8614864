-- Within a frame: from two states that are near, one frame gives the same left and right, and leaves states that are near. Assumes nothing.
use Prim.Native.Nat.{ℕ, suc, ◌<◌}
use mathlib.Core.Path.{◌≡◌, refl, sym, ap, ap₂, subst}
use mathlib.Core.Bool.{Bool}
use Rattle.complex.specs.declared.Complex.{Complex}
use Rattle.complex.specs.Operations.{scaled}
use Rattle.layout.specs.declared.Layout.{Layout}
use Rattle.layout.specs.Numbers.{bands_of, channels_of}
use Rattle.ps_map.specs.Bands.{band_of, conjugated_of}
use Rattle.ps_map.proofs.Bands.{band_small}
use Rattle.standard.specs.declared.Matrix.{Matrix}
use Rattle.standard.specs.Channel.{chain_of}
use Rattle.standard.specs.Detector.{Detector, detector_at, ducking}
use Rattle.standard.specs.Mixing.{Kept, left_of, right_of}
use Rattle.standard.specs.Interpolation.{kept_at, fraction}
use Rattle.standard.specs.Core.{Frame, envelopes, Core, channel_then, power_then, detector_then, duck, decorrelated, kept_then, matrix_then, left_at, right_at, after}
use Rattle.standard.proofs.Frames.{matrix_same}
use Rattle.calls.specs.Near.{NearChannel, NearCore}
use Rattle.calls.proofs.Relation.{channels, detectors, kepts}
use Rattle.calls.proofs.Channels.{near_channel, near_output}

module _ (f : Frame) (s t : Core) (near : NearCore s t) (is-layout : s.layout ≡ f.head.layout) where
  -- ---- after n slots

  channel_then_lem : (k n : ℕ) → k < channels_of f.head.layout → NearChannel f.head.layout k (channel_then f s k n) (channel_then f t k n)
  unfolding channel_then
  channel_then_lem k n u =
      near_channel f.head.layout k (chain_of f.head.layout k) (s.channel k) (t.channel k) (λ m. f.sample m k) n (channels f.head.layout s t near is-layout k u)

  detector_then_lem : (b n : ℕ) → b < bands_of f.head.layout → detector_then f s b n ≡ detector_then f t b n
  unfolding detector_then
  detector_then_lem b n u = ap (λ (d : Detector). detector_at d (power_then f b) n) (detectors f.head.layout s t near is-layout b u)

  duck_same : (b n : ℕ) → b < bands_of f.head.layout → duck f s b n ≡ duck f t b n
  unfolding duck
  duck_same b n u = ap ducking (detector_then_lem b (suc n) u)

  decorrelated_same : (n k : ℕ) → k < channels_of f.head.layout → decorrelated f s n k ≡ decorrelated f t n k
  unfolding decorrelated
  decorrelated_same n k u =
      ap₂ scaled
      (near_output f.head.layout k (channel_then f s k n) (channel_then f t k n) (channel_then_lem k n u))
      (duck_same (band_of f.head.layout k) n (band_small f.head.layout k))

  kept_then_lem : (b e : ℕ) → b < bands_of f.head.layout → kept_then f s b e ≡ kept_then f t b e
  unfolding kept_then
  kept_then_lem b e u = ap (λ (m : Kept). kept_at f.head.modes (λ i. f.cue i b) m e) (kepts f.head.layout s t near is-layout b u)

  matrix_then_lem : (b n : ℕ) → b < bands_of f.head.layout → matrix_then f s b n ≡ matrix_then f t b n
  unfolding matrix_then
  matrix_then_lem b n u =
      matrix_same f.head.borders (fraction f.head.borders) (λ e. (kept_then f s b e).matrix) (λ e. (kept_then f t b e).matrix) n
      (λ e v. ap (λ (m : Kept). m.matrix) (kept_then_lem b e u))

  -- ---- a slot's results, and what the frame leaves

  -- one of the two sides, as a function of the coefficients, the sample and its de-correlation
  near_side : (side : Bool → Matrix → Complex → Complex → Complex) (n k : ℕ) → k < channels_of f.head.layout
      → side (conjugated_of f.head.layout k) (matrix_then f s (band_of f.head.layout k) n) (f.sample n k) (decorrelated f s n k)
      ≡ side (conjugated_of f.head.layout k) (matrix_then f t (band_of f.head.layout k) n) (f.sample n k) (decorrelated f t n k)
  near_side side n k u =
      ap₂ (λ (m : Matrix) (d : Complex). side (conjugated_of f.head.layout k) m (f.sample n k) d)
      (matrix_then_lem (band_of f.head.layout k) n (band_small f.head.layout k)) (decorrelated_same n k u)

  pub near_left : (n k : ℕ) → k < channels_of f.head.layout → left_at f s n k ≡ left_at f t n k
  unfolding left_at
  near_left n k u = near_side left_of n k u

  pub near_right : (n k : ℕ) → k < channels_of f.head.layout → right_at f s n k ≡ right_at f t n k
  unfolding right_at
  near_right n k u = near_side right_of n k u

  pub near_after : NearCore (after f s) (after f t)
  unfolding after
  near_after =
      record {
        layout = near.layout;
        cued = refl;
        channel =
            subst (λ (l : Layout). (k : ℕ) → k < channels_of l → NearChannel l k (channel_then f s k f.head.slots) (channel_then f t k f.head.slots))
            (sym is-layout) (λ k u. channel_then_lem k f.head.slots u);
        detector = λ b u. detector_then_lem b f.head.slots (rw (← is-layout) u);
        kept = λ b u. kept_then_lem b (envelopes f.head) (rw (← is-layout) u);
      }
