-- An accepted frame by its stages is the frame of the definitions: each stage's flat list holds what they say, so the two outputs have their rows, and the
-- carried numbers hold their state. Assumes nothing.
use mathlib.Core.Path.{◌≡◌, refl, sym, ap, ◌∙◌}
use mathlib.Core.Bool.{Bool, true, false, not, ◌&&◌}
use mathlib.Core.List.{List}
use Prim.Native.Nat.{ℕ, ◌+◌, ◌*◌, ◌%◌, ◌<◌, ◌≤◌, min}
use native.Mathlib.Omega.{arith}
use borrow.Author.Tests.{eqb-true, leb-true}
use lib.Dec.{eqb, leb}
use lib.Ieee.{Float, nan}
use lib.ListN.{length, get_or, replicate, length-replicate}
use Rattle.limits.specs.Limits as limits
use Rattle.borders.specs.Borders.{slots_of, border_of, borders_of}
use Rattle.calls.specs.Call.{Playing, buffers_fit, modes_of}
use Rattle.calls.specs.Cues.{cue_at}
use Rattle.cue.specs.declared.Header.{Header}
use Rattle.layout.specs.Numbers.{bands_of, channels_of, unsplit_from_of}
use Rattle.layout.proofs.Bounds.{bounds}
use Rattle.lists.proofs.Maps.{tabulate_length}
use Rattle.lists.proofs.Alls.{both}
use Rattle.planar.specs.Frame.{sample_in, qmf_rows}
use Rattle.ps_allpass_channels.specs.Channels as chains
use Rattle.ps_data.specs.declared.PsLines.{PsLines}
use Rattle.ps_data.specs.Indices.{PsIndices}
use Rattle.ps_decorr.specs.Channels.{plain_with}
use Rattle.ps_decorr.proofs.Held.{plain_wraps}
use Rattle.ps_decorr_allpass.specs.Memory.{delays_with}
use Rattle.ps_decorr_allpass.proofs.Wraps.{delays_wraps}
use Rattle.ps_decorr_transient.specs.Gains.{detectors_with, enough, detectors_after, gains_after}
use Rattle.ps_delay_channels.specs.Channels as delayed
use Rattle.ps_hybrid_analysis.specs.Analysis as analysis
use Rattle.ps_state.specs.declared.PsDecoder.{PsDecoder}
use Rattle.ps_state.specs.State.{core_of, turn_after, stored}
use Rattle.ps_state.specs.Shape.{Shaped}
use Rattle.ps_stereo.specs.Kept.{matrices_with, phases_with}
use Rattle.ps_stereo_borders.specs.Borders as borders
use Rattle.ps_stereo_borders.proofs.Standard.{then_standard}
use Rattle.ps_stereo_slots.specs.declared.Timing.{Timing}
use Rattle.ps_stereo_slots.specs.Slots as slotted
use Rattle.standard.specs.declared.Matrix.{Matrix}
use Rattle.standard.specs.Channel.{rotations_of}
use Rattle.standard.specs.Core.{Frame, Core, channel_then, power_then, detector_then, duck, kept_then, matrix_then, left_at, right_at, after}
use Rattle.standard.specs.Hybrid.{hybrid, synthesised}
use Rattle.standard.specs.Interpolation.{matrix_in}
use Rattle.standard.specs.Mixing.{Kept}
use Rattle.standard.specs.Numbers.{zero}
use Rattle.ps_decoder.specs.Sound.{samples_of, gains_of, directions_of, timing_of, rows_of, left_of, right_of, sounded}
use Rattle.ps_decoder.proofs.Slots.{analysis_room, slot_in, past_after, history_same}
use Rattle.ps_decoder.proofs.Samples.{samples_long, sample_same}
use Rattle.ps_decoder.proofs.Ducking.{ducking_room, detectors_then, gains_length, gain_same}
use Rattle.ps_decoder.proofs.Coefficients.{matrices_then, phases_then, rows_long, matrix_then_lem}
use Rattle.ps_decoder.proofs.Flat.{Flat}
use Rattle.ps_decoder.proofs.Chains.{delays_after_lem}
use Rattle.ps_decoder.proofs.Delays.{plain_after_lem}
use Rattle.ps_decoder.proofs.Sides.{chains_left_long, chains_right_long, left_after_lem, right_after_lem}

-- the input has the rows that a frame reads, and each output exactly a frame's
pub record Fitting (s : PsDecoder) (input left right : List Float) : Type 0 where
  pub room : leb (128 * (slots_of s.asked + 6)) (length input) ≡ true
  pub left_long : length left ≡ 128 * slots_of s.asked
  pub right_long : length right ≡ 128 * slots_of s.asked

-- as the answer of a call tests it
pub fitting_of : (s : PsDecoder) (input left right : List Float) → buffers_fit (slots_of s.asked) (length input) (length left) (length right) ≡ true → Fitting s input left right
unfolding buffers_fit
fitting_of s input left right e =
    let needed : ℕ = 128 * slots_of s.asked in
    let ample : Bool = leb (128 * (slots_of s.asked + 6)) (length input) in
    let outputs : Bool = eqb (length left) needed && eqb (length right) needed in
    let inside = both ample outputs (both (eqb (length input % 128) 0) (ample && outputs) e).1 in
    let sides = both (eqb (length left) needed) (eqb (length right) needed) inside.1 in
    record { room = inside.0; left_long = eqb-true (length left) needed sides.0; right_long = eqb-true (length right) needed sides.1 }

-- ---- the frame of the definitions, from a state that is ready, and what is carried after it

abbrev pub flat_frame : PsDecoder → Header → PsIndices → List ℕ → List Float → ℕ → Frame
flat_frame s h indices positions input edge =
    record {
      head =
          record {
            layout = s.layout;
            slots = slots_of s.asked;
            edge = edge;
            empty = not h.cued;
            borders = borders_of (slots_of s.asked) h.variable (min h.envelopes limits.envelopes) positions;
            modes = modes_of h;
          };
      cue = cue_at s.layout h.config indices;
      sample = λ n k. hybrid s.layout (slot_in s.history input) n k;
    }

abbrev pub flat_after : PsDecoder → List Float → Frame → PsLines → Playing
flat_after s input frame lines =
    record {
      slots = slots_of s.asked;
      lines = lines;
      past = past_after s.history input (slots_of s.asked);
      core = after frame (core_of s);
    }

-- what the stages give
pub record Stages (s : PsDecoder) (h : Header) (indices : PsIndices) (positions : List ℕ) (input left right : List Float) (edge : ℕ) : Type 0 where
  pub left_is : left_of s h indices positions input left right
      ≡ qmf_rows (slots_of s.asked) (λ n q. synthesised s.layout (left_at (flat_frame s h indices positions input edge) (core_of s) n) q)
  pub right_is : right_of s h indices positions input left right
      ≡ qmf_rows (slots_of s.asked) (λ n q. synthesised s.layout (right_at (flat_frame s h indices positions input edge) (core_of s) n) q)
  pub state_is : (lines : PsLines)
      → sounded s h indices positions input left right lines ≡ stored s (flat_after s input (flat_frame s h indices positions input edge) lines)

twice_not : (t : Bool) → t ≡ not (not t)
twice_not true = refl
twice_not false = refl

module _ (s : PsDecoder) (shaped : Shaped s) (h : Header) (indices : PsIndices) (positions : List ℕ) (input left right : List Float) (edge : ℕ) (fitting : Fitting s input left right) where
  abbrev slots : ℕ
  slots = slots_of s.asked

  abbrev frame : Frame
  frame = flat_frame s h indices positions input edge

  abbrev core : Core
  core = core_of s

  abbrev times : Timing
  times = timing_of s h indices positions input left right

  abbrev rows : List Float
  rows = rows_of s h indices positions input left right

  abbrev samples : List Float
  samples = samples_of s times rows input left right

  abbrev gains : List Float
  gains = gains_of s times rows input left right

  few : slots ≤ 32
  few = omega arith

  many : 6 ≤ slots
  many = omega arith

  all_slots : min slots 32 ≡ slots
  all_slots = omega arith

  borders_long : length frame.head.borders ≡ min h.envelopes limits.envelopes
  borders_long = tabulate_length (border_of slots h.variable (min h.envelopes limits.envelopes) positions) (min h.envelopes limits.envelopes)

  -- the input has a row for each slot
  rows_there : 128 * slots ≤ length input
  rows_there = let there : 128 * (slots + 6) ≤ length input = leb-true (128 * (slots + 6)) (length input) fitting.room in omega arith

  -- every stage has room
  analysed : analysis.enough s.layout s.history input (replicate 2048 zero) slots ≡ true
  analysed = analysis_room s.layout s.history input (replicate 2048 zero) slots fitting.room shaped.history (length-replicate 2048 zero)

  runs_long : 64 * unsplit_from_of s.layout ≤ length samples
  unfolding samples_of
  runs_long = samples_long s.layout s.history input (replicate 2048 zero) slots analysed

  ample : enough s.layout s.decorr.detectors samples input (replicate 1088 zero) slots ≡ true
  ample = ducking_room s.layout s.decorr.detectors samples input (replicate 1088 zero) slots rows_there runs_long (length-replicate 1088 zero) shaped.detectors

  sample_is : (n k : ℕ) → n < slots → k < channels_of s.layout → sample_in s.layout samples input n k ≡ frame.sample n k
  unfolding samples_of
  sample_is n k u w = sample_same s.layout s.history input (replicate 2048 zero) slots analysed few n k u

  factors_long : 32 * bands_of s.layout ≤ length gains
  unfolding gains_of
  factors_long =
      let long : length (gains_after s.layout s.decorr.detectors samples input (replicate 1088 zero) (min slots 32)) ≡ 1088
      = ap (λ (m : ℕ). length (gains_after s.layout s.decorr.detectors samples input (replicate 1088 zero) m)) all_slots
      ∙ gains_length s.layout s.decorr.detectors samples input slots frame.sample sample_is (replicate 1088 zero) ample
      ∙ length-replicate 1088 zero in
      omega (arith, (bounds s.layout).bands, long)

  gain_is : (b n : ℕ) → b < bands_of s.layout → n < slots → get_or gains (32 * b + n) nan ≡ duck frame core b n
  unfolding gains_of duck detector_then power_then core_of
  gain_is b n u w =
      ap (λ (m : ℕ). get_or (gains_after s.layout s.decorr.detectors samples input (replicate 1088 zero) m) (32 * b + n) nan) all_slots
      ∙ gain_same s.layout s.decorr.detectors samples input slots frame.sample sample_is (replicate 1088 zero) ample
      (omega (arith, (bounds s.layout).bands, length-replicate 1088 zero)) few b n u w

  -- what the bands keep by the table of directions, which is there only in a frame with phase
  abbrev kept_by : ℕ → ℕ → Kept
  kept_by b e = borders.kept_then s.layout h indices (directions_of h) s.stereo.matrices s.stereo.phases b e

  kept_is : (b e : ℕ) → kept_by b e ≡ kept_then frame core b e
  unfolding kept_then core_of
  kept_is b e = then_standard s.layout h indices s.stereo.matrices s.stereo.phases b e

  kept_last : ◌≡◌ {A = ℕ → Kept} (λ b. kept_by b (min h.envelopes limits.envelopes)) (λ b. kept_then frame core b (length frame.head.borders))
  kept_last = λ i b. (kept_is b (min h.envelopes limits.envelopes) ∙ ap (kept_then frame core b) (sym borders_long)) i

  blank : length (replicate limits.matrices zero) ≡ limits.matrices
  blank = length-replicate limits.matrices zero

  courses_long : limits.course * bands_of s.layout ≤ length rows
  unfolding rows_of
  courses_long =
      rows_long s.layout h indices (directions_of h) s.stereo.matrices s.stereo.phases (replicate limits.matrices zero) shaped.matrices shaped.phases blank

  matrix_is : (b n : ℕ) → b < bands_of s.layout → matrix_in (slotted.borders_of times.borders h.envelopes) (slotted.border_matrix rows b) n ≡ matrix_then frame core b n
  unfolding rows_of matrix_then
  matrix_is b n u =
      matrix_then_lem s.layout h indices (directions_of h) s.stereo.matrices s.stereo.phases (replicate limits.matrices zero) shaped.matrices shaped.phases blank
      frame.head.borders b n borders_long u
      ∙ ap (λ (kept : ℕ → Matrix). matrix_in frame.head.borders kept n) (λ i e. (kept_is b e i).matrix)

  -- each stage's list holds what the definitions say
  pub flat : Flat frame core times.borders h.envelopes s.decorr.turn samples input gains rows s.decorr.delays s.decorr.plain
  unfolding core_of
  flat =
      record {
        few = few;
        samples_long = runs_long;
        input_long = rows_there;
        gains_long = factors_long;
        rows_long = courses_long;
        delays_long = omega (arith, (bounds s.layout).groups, shaped.delays);
        plain_long = shaped.plain;
        sample = sample_is;
        gain = gain_is;
        matrix = matrix_is;
        channel = λ k. refl;
      }

  -- both sides as the all-pass channels leave them
  abbrev low_left : List Float
  low_left = chains.left_after s.layout times (rotations_of s.layout) samples gains rows input s.decorr.delays left right

  abbrev low_right : List Float
  low_right = chains.right_after s.layout times (rotations_of s.layout) samples gains rows input s.decorr.delays left right

  low_left_lem : length low_left ≡ 128 * slots
  low_left_lem = chains_left_long flat left right fitting.left_long fitting.right_long

  low_right_lem : length low_right ≡ 128 * slots
  low_right_lem = chains_right_long flat left right fitting.left_long fitting.right_long

  detectors_are : detectors_after s.layout s.decorr.detectors samples input (replicate 1088 zero) (min slots 32)
      ≡ detectors_with s.layout (λ b. detector_then frame core b slots) s.decorr.detectors
  unfolding detector_then power_then core_of
  detectors_are =
      ap (detectors_after s.layout s.decorr.detectors samples input (replicate 1088 zero)) all_slots
      ∙ detectors_then s.layout s.decorr.detectors samples input slots frame.sample sample_is (replicate 1088 zero) ample

  matrices_are : borders.matrices_after s.layout h indices (directions_of h) s.stereo.matrices s.stereo.phases (replicate limits.matrices zero)
      ≡ matrices_with s.layout (λ b. kept_then frame core b (length frame.head.borders)) s.stereo.matrices
  matrices_are =
      matrices_then s.layout h indices (directions_of h) s.stereo.matrices s.stereo.phases (replicate limits.matrices zero) shaped.matrices shaped.phases blank
      ∙ ap (λ (kept : ℕ → Kept). matrices_with s.layout kept s.stereo.matrices) kept_last

  phases_are : borders.phases_after s.layout h indices (directions_of h) s.stereo.matrices s.stereo.phases (replicate limits.matrices zero)
      ≡ phases_with s.layout (λ b. kept_then frame core b (length frame.head.borders)) s.stereo.phases
  phases_are =
      phases_then s.layout h indices (directions_of h) s.stereo.matrices s.stereo.phases (replicate limits.matrices zero) shaped.matrices shaped.phases blank
      ∙ ap (λ (kept : ℕ → Kept). phases_with s.layout kept s.stereo.phases) kept_last

  -- the rings go on at the remainder of the slots so far
  delays_are : chains.delays_after s.layout times (rotations_of s.layout) samples gains rows input s.decorr.delays left right
      ≡ delays_with s.layout (turn_after s slots) (λ k. channel_then frame core k slots) s.decorr.delays
  delays_are =
      delays_after_lem flat left right fitting.left_long fitting.right_long
      ∙ sym (delays_wraps (s.decorr.turn + slots) s.layout (λ k. channel_then frame core k slots) s.decorr.delays)

  plain_is : delayed.plain_after s.layout times input gains rows s.decorr.plain low_left low_right
      ≡ plain_with s.layout (turn_after s slots) (λ k. channel_then frame core k slots)
  plain_is =
      plain_after_lem flat low_left low_right low_left_lem low_right_lem
      ∙ sym (plain_wraps s.layout (λ k. channel_then frame core k slots) (s.decorr.turn + slots))

  state_same : (lines : PsLines) → sounded s h indices positions input left right lines ≡ stored s (flat_after s input frame lines)
  unfolding sounded stored after core_of
  state_same lines =
      λ i.
      record {
        asked = s.asked;
        layout = s.layout;
        cued = twice_not h.cued i;
        lines = lines;
        history = history_same s.history input s.layout (replicate 2048 zero) slots many analysed i;
        decorr = record { turn = turn_after s slots; delays = delays_are i; plain = plain_is i; detectors = detectors_are i };
        stereo = record { matrices = matrices_are i; phases = phases_are i };
      }

  pub sound_is : Stages s h indices positions input left right edge
  unfolding left_of right_of
  sound_is =
      record {
        left_is = left_after_lem flat left right fitting.left_long fitting.right_long;
        right_is = right_after_lem flat left right fitting.left_long fitting.right_long;
        state_is = state_same;
      }
