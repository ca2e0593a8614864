-- The stages' results put together are the frame's: each stage by its own promise, and its part of the lent sound where it stands. Assumes nothing.
use native.Mathlib.Omega.{arith}
use Prim.Native.Nat.{ℕ, ◌+◌, ◌≤◌, min}
use mathlib.Core.Path.{◌≡◌, subst, ◌∙◌}
use mathlib.Core.List.{List}
use borrow.Rule.Slice.PartMut.{same_len_mid}
use lib.Ieee.{Float, binary64, of_bits}
use lib.IntN.{ℤ}
use lib.ListN.{length, replicate, length-replicate}
use Rattle.limits.specs.Limits as limits
use Rattle.borders.specs.Borders.{slots_of, borders_of}
use Rattle.cue.specs.declared.Header.{Header}
use Rattle.layout.specs.declared.Layout.{Layout}
use Rattle.lists.specs.Padded.{padded}
use Rattle.lists.specs.Part.{part, put}
use Rattle.lists.proofs.Parts.{part_length, part_put, part_put_before, part_put_behind}
use Rattle.ps_allpass_channels.specs.Channels as chains
use Rattle.ps_data.specs.declared.PsLines.{PsLines}
use Rattle.ps_data.specs.Indices.{PsIndices}
use Rattle.ps_decorr_transient.specs.Gains.{detectors_after, gains_after}
use Rattle.ps_delay_channels.specs.Channels as delayed
use Rattle.ps_hybrid_analysis.specs.Analysis.{history_after, samples_after}
use Rattle.ps_state.specs.declared.PsCarried.{PsCarried}
use Rattle.ps_state.specs.declared.PsDecoder.{PsDecoder}
use Rattle.ps_state.specs.State.{sound_long, delays_at, plain_at, detectors_at, matrices_at, decoder_in, turn_after}
use Rattle.standard.specs.Channel.{rotations_of}
use Rattle.standard.proofs.Literals.{zero_is}
use Rattle.ps_stereo_borders.specs.Borders as borders
use Rattle.ps_stereo_slots.specs.declared.Timing.{Timing}
use Rattle.ps_decoder.specs.Sound.{samples_of, gains_of, Staged, directions_of, rows_of, left_of, right_of, sounded}

-- an array of the code that starts with the literal 0.0
abbrev pub blank : ℕ → List Float
blank n = replicate n (of_bits binary64 0)

pub blank_long : (n : ℕ) → length (blank n) ≡ n
blank_long n = length-replicate n (of_bits binary64 0)

-- ---- the stages after the coefficients

module _ (k : PsCarried) (timing : Timing) (rows input m left right : List Float) (history detectors delays plain : List Float) where
  -- the sound after each of them
  abbrev analysed : List Float
  analysed = put 0 60 m history

  abbrev ducked : List Float
  ducked = put detectors_at 102 analysed detectors

  abbrev passed : List Float
  passed = put delays_at 1456 ducked delays

  abbrev ended : List Float
  ended = put plain_at 394 passed plain

  -- what they gave
  pub record Given (samples gains low_left_lem low_right_lem new-left new-right : List Float) : Type 0 where
    pub long : length m ≡ sound_long
    pub clamped : slots_of timing.slots ≡ timing.slots
    pub history_kept : length history ≡ length (part 0 60 m)
    pub detectors_kept : length detectors ≡ length (part detectors_at 102 analysed)
    pub delays_kept : length delays ≡ length (part delays_at 1456 ducked)
    pub plain_kept : length plain ≡ length (part plain_at 394 passed)
    pub history_is : history ≡ history_after k.layout (part 0 60 m) input (blank 2048) (slots_of timing.slots)
    pub samples_are : samples ≡ samples_after k.layout (part 0 60 m) input (blank 2048) (slots_of timing.slots)
    pub detectors_are : detectors ≡ detectors_after k.layout (part detectors_at 102 analysed) samples input (blank 1088) (min timing.slots 32)
    pub gains_are : gains ≡ gains_after k.layout (part detectors_at 102 analysed) samples input (blank 1088) (min timing.slots 32)
    pub left_low : low_left_lem ≡ chains.left_after k.layout timing (rotations_of k.layout) samples gains rows input (part delays_at 1456 ducked) left right
    pub right_low : low_right_lem ≡ chains.right_after k.layout timing (rotations_of k.layout) samples gains rows input (part delays_at 1456 ducked) left right
    pub delays_are : delays ≡ chains.delays_after k.layout timing (rotations_of k.layout) samples gains rows input (part delays_at 1456 ducked) left right
    pub left_is : new-left ≡ delayed.left_after k.layout timing input gains rows (part plain_at 394 passed) low_left_lem low_right_lem
    pub right_is : new-right ≡ delayed.right_after k.layout timing input gains rows (part plain_at 394 passed) low_left_lem low_right_lem
    pub plain_is : plain ≡ delayed.plain_after k.layout timing input gains rows (part plain_at 394 passed) low_left_lem low_right_lem

  module _ {samples gains low_left_lem low_right_lem new-left new-right : List Float} (given : Given samples gains low_left_lem low_right_lem new-left new-right) where
    abbrev s : PsDecoder
    s = decoder_in k m

    -- the lengths
    analysed_long : length analysed ≡ sound_long
    analysed_long = same_len_mid 0 60 m history given.history_kept ∙ given.long

    ducked_long : length ducked ≡ sound_long
    ducked_long = same_len_mid detectors_at 102 analysed detectors given.detectors_kept ∙ analysed_long

    passed_long : length passed ≡ sound_long
    passed_long = same_len_mid delays_at 1456 ducked delays given.delays_kept ∙ ducked_long

    pub ended_long : length ended ≡ sound_long
    ended_long = same_len_mid plain_at 394 passed plain given.plain_kept ∙ passed_long

    history_long : length history ≡ 60
    history_long = given.history_kept ∙ part_length 0 60 m (omega (arith, given.long))

    detectors_long : length detectors ≡ 102
    detectors_long = given.detectors_kept ∙ part_length detectors_at 102 analysed (omega (arith, analysed_long))

    delays_long : length delays ≡ 1456
    delays_long = given.delays_kept ∙ part_length delays_at 1456 ducked (omega (arith, ducked_long))

    plain_long : length plain ≡ 394
    plain_long = given.plain_kept ∙ part_length plain_at 394 passed (omega (arith, passed_long))

    -- a part of the sound before and behind the one that a stage writes
    around_history : (b n : ℕ) → 60 ≤ b → part b n analysed ≡ part b n m
    around_history b n h = part_put_behind 0 60 m history (omega arith) b n history_long (omega arith)

    -- each stage finds its own part as it was
    detectors_found : part detectors_at 102 analysed ≡ part detectors_at 102 m
    detectors_found = around_history detectors_at 102 (omega arith)

    delays_found : part delays_at 1456 ducked ≡ part delays_at 1456 m
    delays_found =
        part_put_before detectors_at 102 analysed detectors (omega (arith, analysed_long)) delays_at 1456 (omega arith)
        ∙ around_history delays_at 1456 (omega arith)

    plain_found : part plain_at 394 passed ≡ part plain_at 394 m
    plain_found =
        part_put_behind delays_at 1456 ducked delays (omega (arith, ducked_long)) plain_at 394 delays_long (omega arith)
        ∙ part_put_before detectors_at 102 analysed detectors (omega (arith, analysed_long)) plain_at 394 (omega arith)
        ∙ around_history plain_at 394 (omega arith)

    -- and what each wrote stays
    history_left : part 0 60 ended ≡ history
    history_left =
        part_put_before plain_at 394 passed plain (omega (arith, passed_long)) 0 60 (omega arith)
        ∙ part_put_before delays_at 1456 ducked delays (omega (arith, ducked_long)) 0 60 (omega arith)
        ∙ part_put_before detectors_at 102 analysed detectors (omega (arith, analysed_long)) 0 60 (omega arith)
        ∙ part_put 0 60 m history (omega arith) history_long

    delays_left : part delays_at 1456 ended ≡ delays
    delays_left =
        part_put_before plain_at 394 passed plain (omega (arith, passed_long)) delays_at 1456 (omega arith)
        ∙ part_put delays_at 1456 ducked delays (omega (arith, ducked_long)) delays_long

    plain_left : part plain_at 394 ended ≡ plain
    plain_left = part_put plain_at 394 passed plain (omega (arith, passed_long)) plain_long

    behind_plain : (b n : ℕ) → detectors_at ≤ b → part b n ended ≡ part b n ducked
    behind_plain b n h =
        part_put_behind plain_at 394 passed plain (omega (arith, passed_long)) b n plain_long (omega arith)
        ∙ part_put_behind delays_at 1456 ducked delays (omega (arith, ducked_long)) b n delays_long (omega arith)

    detectors_left : part detectors_at 102 ended ≡ detectors
    detectors_left = behind_plain detectors_at 102 (omega arith) ∙ part_put detectors_at 102 analysed detectors (omega (arith, analysed_long)) detectors_long

    matrices_left : part matrices_at 272 ended ≡ part matrices_at 272 m
    matrices_left =
        behind_plain matrices_at 272 (omega arith)
        ∙ part_put_behind detectors_at 102 analysed detectors (omega (arith, analysed_long)) matrices_at 272 detectors_long (omega arith)
        ∙ around_history matrices_at 272 (omega arith)

    -- so their results are those from the state before
    samples_is : samples ≡ samples_of s timing rows input left right
    unfolding samples_of
    samples_is = rw (given.clamped, zero_is) at given.samples_are

    gains_is : gains ≡ gains_of s timing rows input left right
    unfolding gains_of
    gains_is = rw (detectors_found, samples_is, zero_is) at given.gains_are

    pub staged : Staged s timing rows input left right (decoder_in k ended) new-left new-right
    staged =
        record {
          history_is = history_left ∙ rw (given.clamped, zero_is) at given.history_is;
          delays_are = delays_left ∙ rw (delays_found, gains_is, samples_is) at given.delays_are;
          plain_is = plain_left ∙ rw (given.left_low, given.right_low, plain_found, delays_found, gains_is, samples_is) at given.plain_is;
          detectors_are = detectors_left ∙ rw (detectors_found, samples_is, zero_is) at given.detectors_are;
          matrices_are = matrices_left;
          left_is = rw (given.left_low, given.right_low, plain_found, delays_found, gains_is, samples_is) at given.left_is;
          right_is = rw (given.left_low, given.right_low, plain_found, delays_found, gains_is, samples_is) at given.right_is;
        }

-- ---- the frame, from what the coefficients and the borders gave

-- a state with other coefficients
abbrev remade : PsDecoder → List Float → PsDecoder
remade s matrices =
    record {
      asked = s.asked;
      layout = s.layout;
      cued = s.cued;
      lines = s.lines;
      history = s.history;
      decorr = s.decorr;
      stereo = record { matrices = matrices; phases = s.stereo.phases };
    }

-- as the lent sound has them
pub remade_in : (k : PsCarried) (m matrices : List Float) → length m ≡ sound_long → length matrices ≡ length (part matrices_at 272 m)
    → decoder_in k (put matrices_at 272 m matrices) ≡ remade (decoder_in k m) matrices
remade_in k m matrices long kept =
    λ i.
    record {
      asked = k.asked;
      layout = k.layout;
      cued = k.cued;
      lines = k.lines;
      history = before 0 60 (omega arith) i;
      decorr = record { turn = k.turn; delays = before delays_at 1456 (omega arith) i; plain = before plain_at 394 (omega arith) i; detectors = before detectors_at 102 (omega arith) i };
      stereo = record { matrices = part_put matrices_at 272 m matrices (omega arith) (kept ∙ part_length matrices_at 272 m (omega arith)) i; phases = k.phases };
    }
  where
    before : (b n : ℕ) → b + n ≤ matrices_at → part b n (put matrices_at 272 m matrices) ≡ part b n m
    before b n h = part_put_before matrices_at 272 m matrices (omega arith) b n h

module _ (s : PsDecoder) (h : Header) (indices : PsIndices) (positions : List ℕ) (input left right : List Float) where
  abbrev through : {A : Type 0} → (Layout → Header → PsIndices → List ℤ → List Float → List ℤ → List Float → A) → A
  through result = result s.layout h indices (directions_of h) s.stereo.matrices s.stereo.phases (blank limits.matrices)

  pub record Timed (slots : ℕ) (rows matrices : List Float) (phases : List ℤ) (places : List ℕ) : Type 0 where
    pub slots_are : slots ≡ slots_of s.asked
    pub rows_are : rows ≡ through borders.rows_after
    pub matrices_are : matrices ≡ through borders.matrices_after
    pub phases_are : phases ≡ through borders.phases_after
    pub places_are : places ≡ padded limits.envelopes 0 (borders_of (slots_of s.asked) h.variable (min h.envelopes limits.envelopes) positions)

  module _ {slots : ℕ} {rows matrices : List Float} {phases : List ℤ} {places : List ℕ} (timed : Timed slots rows matrices phases places) where
    abbrev times : Timing
    times = record { borders = places; count = h.envelopes; slots = slots; turn = s.decorr.turn }

    rows_is : rows ≡ rows_of s h indices positions input left right
    unfolding rows_of
    rows_is = rw (← zero_is) timed.rows_are

    module _ {made after : PsDecoder} {new-left new-right : List Float} (is : made ≡ remade s matrices) (given : Staged made times rows input left right after new-left new-right) where
      from : Staged (remade s matrices) times rows input left right after new-left new-right
      from = subst (λ (d : PsDecoder). Staged d times rows input left right after new-left new-right) is given

      pub left_is : new-left ≡ left_of s h indices positions input left right
      unfolding left_of gains_of samples_of
      left_is = rw (timed.places_are, rows_is, timed.slots_are) at from.left_is

      pub right_is : new-right ≡ right_of s h indices positions input left right
      unfolding right_of gains_of samples_of
      right_is = rw (timed.places_are, rows_is, timed.slots_are) at from.right_is

      pub state_is : (lines : PsLines) (turn : ℕ) → turn ≡ turn_after s (slots_of s.asked)
          → record {
            asked = s.asked;
            layout = s.layout;
            cued = h.cued;
            lines = lines;
            history = after.history;
            decorr = record { turn = turn; delays = after.decorr.delays; plain = after.decorr.plain; detectors = after.decorr.detectors };
            stereo = record { matrices = after.stereo.matrices; phases = phases };
          } ≡ sounded s h indices positions input left right lines
      unfolding sounded gains_of samples_of
      state_is lines turn turn_is =
          let kept = rw zero_is at timed.matrices_are in
          let turned = rw zero_is at timed.phases_are in
          rw (turn_is, from.history_is, from.delays_are, from.plain_is, from.detectors_are, from.matrices_are, kept, turned, timed.places_are, rows_is, timed.slots_are)
