-- An accepted frame by its stages, each over flat lists: coefficients at the borders, analysis, ducking factors, all-pass channels, plain delays.
-- Assumes nothing.
use Rattle.std.specs.Prelude.{ℕ, min, cond, List, [], ◌≡◌, Float, ℤ, replicate}
use Rattle.borders.specs.Borders.{slots_of, borders_of}
use Rattle.cue.specs.declared.Header.{Header}
use Rattle.layout.specs.declared.Layout.{Layout}
use Rattle.limits.specs.Limits as limits
use Rattle.lists.specs.Padded.{padded}
use Rattle.phase_table.specs.Values.{phase}
use Rattle.ps_data.specs.declared.PsLines.{PsLines}
use Rattle.ps_data.specs.Indices.{PsIndices}
use Rattle.ps_data.specs.declared.Resolved.{Resolved}
use Rattle.ps_allpass_channels.specs.Channels as chains
use Rattle.ps_decorr_transient.specs.Gains as gains
use Rattle.ps_delay_channels.specs.Channels as delays
use Rattle.ps_hybrid_analysis.specs.Analysis as analysis
use Rattle.ps_stereo_borders.specs.Borders as borders
use Rattle.ps_state.specs.declared.PsDecoder.{PsDecoder}
use Rattle.ps_state.specs.State.{turn_after}
use Rattle.ps_stereo_slots.specs.declared.Timing.{Timing}
use Rattle.standard.specs.Channel.{rotations_of}
use Rattle.standard.specs.Numbers.{zero}

-- ---- the stages after the coefficients: a state, when the frame is, the coefficients at the borders, and the buffers

module _ (s : PsDecoder) (timing : Timing) (rows input left right : List Float) where
  unfoldable pub samples_of : List Float
  samples_of = analysis.samples_after s.layout s.history input (replicate 2048 zero) timing.slots

  unfoldable pub gains_of : List Float
  gains_of = gains.gains_after s.layout s.decorr.detectors samples_of input (replicate 1088 zero) (min timing.slots 32)

  -- a result of the all-pass channels
  abbrev through_chains : (Layout → Timing → List ℤ → List Float → List Float → List Float → List Float → List Float → List Float → List Float → List Float) → List Float
  through_chains result = result s.layout timing (rotations_of s.layout) samples_of gains_of rows input s.decorr.delays left right

  -- and of the plain delays, on both sides as the all-pass channels left them
  abbrev through_delays : (Layout → Timing → List Float → List Float → List Float → List Float → List Float → List Float → List Float) → List Float
  through_delays result = result s.layout timing input gains_of rows s.decorr.plain (through_chains chains.left_after) (through_chains chains.right_after)

  pub record Staged (after : PsDecoder) (new-left new-right : List Float) : Type 0 where
    pub history_is : after.history ≡ analysis.history_after s.layout s.history input (replicate 2048 zero) timing.slots
    pub delays_are : after.decorr.delays ≡ through_chains chains.delays_after
    pub plain_is : after.decorr.plain ≡ through_delays delays.plain_after
    pub detectors_are : after.decorr.detectors ≡ gains.detectors_after s.layout s.decorr.detectors samples_of input (replicate 1088 zero) (min timing.slots 32)
    pub matrices_are : after.stereo.matrices ≡ s.stereo.matrices
    pub left_is : new-left ≡ through_delays delays.left_after
    pub right_is : new-right ≡ through_delays delays.right_after

-- ---- the frame: a state that is ready, what the line says, and the buffers

-- the table of directions is there in a frame with phase alone
abbrev pub directions_of : Header → List ℤ
directions_of h = cond h.phase phase []

module _ (s : PsDecoder) (h : Header) (indices : PsIndices) (positions : List ℕ) (input left right : List Float) where
  abbrev slots : ℕ
  slots = slots_of s.asked

  abbrev pub timing_of : Timing
  timing_of =
      record {
        borders = padded limits.envelopes 0 (borders_of slots h.variable (min h.envelopes limits.envelopes) positions);
        count = h.envelopes;
        slots = slots;
        turn = s.decorr.turn;
      }

  -- a result of the coefficients
  abbrev through_borders : {A : Type 0} → (Layout → Header → PsIndices → List ℤ → List Float → List ℤ → List Float → A) → A
  through_borders result = result s.layout h indices (directions_of h) s.stereo.matrices s.stereo.phases (replicate limits.matrices zero)

  unfoldable pub rows_of : List Float
  rows_of = through_borders borders.rows_after

  unfoldable pub left_of : List Float
  left_of = through_delays s timing_of rows_of input left right delays.left_after

  unfoldable pub right_of : List Float
  right_of = through_delays s timing_of rows_of input left right delays.right_after

  unfoldable pub sounded : PsLines → PsDecoder
  sounded lines =
      record {
        asked = s.asked;
        layout = s.layout;
        cued = h.cued;
        lines = lines;
        history = analysis.history_after s.layout s.history input (replicate 2048 zero) slots;
        decorr =
            record {
              turn = turn_after s slots;
              delays = through_chains s timing_of rows_of input left right chains.delays_after;
              plain = through_delays s timing_of rows_of input left right delays.plain_after;
              detectors = gains.detectors_after s.layout s.decorr.detectors (samples_of s timing_of rows_of input left right) input (replicate 1088 zero) (min slots 32);
            };
        stereo = record { matrices = through_borders borders.matrices_after; phases = through_borders borders.phases_after };
      }

-- an accepted frame from a state that is ready: the state after it, and both sides
pub record Sounded (s : PsDecoder) (h : Header) (r : Resolved) (input left right : List Float) (after : PsDecoder) (new-left new-right : List Float) : Type 0 where
  pub state : after ≡ sounded s h r.indices r.positions input left right r.lines
  pub left_rows : new-left ≡ left_of s h r.indices r.positions input left right
  pub right_rows : new-right ≡ right_of s h r.indices r.positions input left right
