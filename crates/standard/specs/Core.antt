-- §8.6.4.5 and §8.6.4.6 over a frame and a run of frames, from hybrid samples and cues to left and right hybrid samples. What a channel or a band
-- owns is a function of its number. Assumes nothing.
use Rattle.std.specs.Prelude.{ℕ, zero, suc, ◌+◌, Bool, true, false, not, cond, List, leb, Float, get_or, length}
use Rattle.complex.specs.declared.Complex.{Complex}
use Rattle.complex.specs.Operations.{scaled}
use Rattle.layout.specs.declared.Layout.{Layout}
use Rattle.layout.specs.declared.Layout.TheVariants.{Bands20, Bands34}
use Rattle.layout.specs.Numbers.{channels_of, reset_from_of}
use Rattle.lists.specs.Rows.{tabulate}
use Rattle.ps_map.specs.Bands.{band_of, conjugated_of}
use Rattle.ps_map.specs.Maps.{map_coefficients}
use Rattle.standard.specs.declared.Matrix.{Matrix}
use Rattle.standard.specs.declared.Modes.{Modes}
use Rattle.standard.specs.Numbers as numbers
use Rattle.standard.specs.Channel.{Channel, silent, chain_of, channel_at, channel_output}
use Rattle.standard.specs.Detector.{Detector, calm, power_to, detector_at, ducking}
use Rattle.standard.specs.Mixing.{Cue, Phases, Kept, no_phases, fresh_kept, left_of, right_of}
use Rattle.standard.specs.Interpolation.{kept_at, matrix_in}

-- ---- a frame

-- what is said of a frame as a whole: two runs that match in it differ in samples and cues alone
pub record Head : Type 0 where
  pub layout : Layout
  pub slots : ℕ
  pub edge : ℕ
  pub empty : Bool
  pub borders : List ℕ
  pub modes : Modes

-- the mapped cues by envelope and band, and the hybrid samples by slot and channel
pub record Frame : Type 0 where
  pub head : Head
  pub cue : ℕ → ℕ → Cue
  pub sample : ℕ → ℕ → Complex

abbrev pub envelopes : Head → ℕ
envelopes head = length head.borders

-- ---- what is carried from frame to frame

pub record Core : Type 0 where
  pub layout : Layout
  pub cued : Bool
  pub channel : ℕ → Channel
  pub detector : ℕ → Detector
  pub kept : ℕ → Kept

-- 20 bands, no line yet, every delay silent, every detector calm, no coefficients
unfoldable pub fresh : Core
fresh = record { layout = Bands20; cued = false; channel = λ k. silent; detector = λ b. calm; kept = λ b. fresh_kept }

-- ---- a change of layout, Table 8.47

unfoldable pub same_layout : Layout → Layout → Bool
same_layout Bands20 Bands20 = true
same_layout Bands20 Bands34 = false
same_layout Bands34 Bands20 = false
same_layout Bands34 Bands34 = true

-- one number of the coefficients of every band, brought to a layout from the other one
abbrev remapped_number : Layout → (ℕ → Float) → ℕ → Float
remapped_number l number b = get_or (map_coefficients (tabulate number 34) l) b numbers.zero

abbrev remapped_part : Layout → (ℕ → Complex) → ℕ → Complex
remapped_part l part b = record { re = remapped_number l (λ j. (part j).re) b; im = remapped_number l (λ j. (part j).im) b }

-- the held coefficients are remapped, and the phase history reset
unfoldable pub remapped : Layout → (ℕ → Kept) → ℕ → Kept
remapped l kept b =
    record {
      matrix =
          record {
            h11 = remapped_part l (λ j. (kept j).matrix.h11) b;
            h12 = remapped_part l (λ j. (kept j).matrix.h12) b;
            h21 = remapped_part l (λ j. (kept j).matrix.h21) b;
            h22 = remapped_part l (λ j. (kept j).matrix.h22) b;
          };
      ipd = no_phases;
      opd = no_phases;
    }

-- the whole de-correlator is reset with its detectors
unfoldable pub switched : Layout → Core → Core
switched l s =
    cond (same_layout s.layout l) s
    (record { layout = l; cued = s.cued; channel = λ k. silent; detector = λ b. calm; kept = remapped l s.kept })

-- ---- a frame's own reset, Annex 8.A.3

-- the whole bank if the previous accepted frame's line was empty, also before the first; else from the spectrum edge on
unfoldable pub clear_from : Head → Bool → ℕ
clear_from head cued = cond cued (reset_from_of head.layout head.edge) 0

-- the delays from a channel on, never the detectors
unfoldable pub cleared : ℕ → (ℕ → Channel) → ℕ → Channel
cleared from channel k = cond (leb from k) silent (channel k)

unfoldable pub ready : Head → Core → Core
ready head s =
    let t = switched head.layout s in
    record { layout = t.layout; cued = t.cued; channel = cleared (clear_from head t.cued) t.channel; detector = t.detector; kept = t.kept }

-- ---- within a frame, from a state that is ready: after n slots

unfoldable pub channel_then : Frame → Core → ℕ → ℕ → Channel
channel_then f s k n = channel_at (chain_of f.head.layout k) (s.channel k) (λ m. f.sample m k) n

unfoldable pub power_then : Frame → ℕ → ℕ → Float
power_then f b n = power_to f.head.layout (f.sample n) b (channels_of f.head.layout)

unfoldable pub detector_then : Frame → Core → ℕ → ℕ → Detector
detector_then f s b n = detector_at (s.detector b) (power_then f b) n

-- ---- a slot's results

-- the ducking factor of band b
unfoldable pub duck : Frame → Core → ℕ → ℕ → Float
duck f s b n = ducking (detector_then f s b (suc n))

-- d_k(n)
unfoldable pub decorrelated : Frame → Core → ℕ → ℕ → Complex
decorrelated f s n k = scaled (channel_output f.head.layout k (channel_then f s k n)) (duck f s (band_of f.head.layout k) n)

-- what band b keeps after e envelopes, and its coefficients in slot n
unfoldable pub kept_then : Frame → Core → ℕ → ℕ → Kept
kept_then f s b e = kept_at f.head.modes (λ i. f.cue i b) (s.kept b) e

unfoldable pub matrix_then : Frame → Core → ℕ → ℕ → Matrix
matrix_then f s b n = matrix_in f.head.borders (λ e. (kept_then f s b e).matrix) n

-- l_k(n) and r_k(n)
unfoldable pub left_at : Frame → Core → ℕ → ℕ → Complex
left_at f s n k =
    left_of (conjugated_of f.head.layout k) (matrix_then f s (band_of f.head.layout k) n) (f.sample n k) (decorrelated f s n k)

unfoldable pub right_at : Frame → Core → ℕ → ℕ → Complex
right_at f s n k =
    right_of (conjugated_of f.head.layout k) (matrix_then f s (band_of f.head.layout k) n) (f.sample n k) (decorrelated f s n k)

-- ---- a whole frame, and a run of frames

unfoldable pub after : Frame → Core → Core
after f s =
    record {
      layout = s.layout;
      cued = not f.head.empty;
      channel = λ k. channel_then f s k f.head.slots;
      detector = λ b. detector_then f s b f.head.slots;
      kept = λ b. kept_then f s b (envelopes f.head);
    }

unfoldable pub next : Core → Frame → Core
next s f = after f (ready f.head s)

-- the state before frame i, and frame i's left and right
unfoldable pub before : Core → (ℕ → Frame) → ℕ → Core
before s f zero = s
before s f (suc i) = next (before s f i) (f i)

unfoldable pub left : Core → (ℕ → Frame) → ℕ → ℕ → ℕ → Complex
left s f i n k = left_at (f i) (ready (f i).head (before s f i)) n k

unfoldable pub right : Core → (ℕ → Frame) → ℕ → ℕ → ℕ → Complex
right s f i n k = right_at (f i) (ready (f i).head (before s f i)) n k
