-- The numbers of a decoder that hold a state give it back as far as its delays reach, and those of a fresh decoder give the fresh state. Assumes nothing.
use Prim.Native.Nat.{ℕ, ◌+◌, ◌-◌, ◌*◌, ◌<◌, ◌≤◌}
use mathlib.Core.Path.{◌≡◌, refl, sym, ap, ◌∙◌}
use mathlib.Core.Bool.{Bool, true, false}
use mathlib.Core.List.{List}
use native.Mathlib.Omega.{arith}
use borrow.Author.Tests.{ltb-true, ltb-false}
use lib.Dec.{ltb}
use lib.IntN.{ℤ, pos}
use lib.Ieee.{Float, nan}
use lib.ListN.{length, get_or, replicate, length-replicate, get_or-replicate}
use Rattle.borders.specs.Borders.{slots_of}
use Rattle.calls.specs.Call.{Playing, fresh}
use Rattle.calls.specs.Near.{Alike, NearChannel, NearCore, Near}
use Rattle.complex.specs.declared.Complex.{Complex}
use Rattle.layout.specs.declared.Layout.{Layout}
use Rattle.layout.specs.declared.Layout.TheVariants.{Bands20}
use Rattle.layout.specs.Numbers.{split_of, bands_of, channels_of, all_pass_of, short_delay_of}
use Rattle.layout.proofs.Bounds.{bounds}
use Rattle.lists.specs.Part.{part}
use Rattle.lists.specs.Ring.{age}
use Rattle.lists.proofs.Maps.{tabulate_length, tabulate_at}
use Rattle.lists.proofs.Ring.{age_small}
use Rattle.planar.specs.Cells.{cell}
use Rattle.planar.specs.Frame.{kept_matrix, numbers_of, phase_numbers}
use Rattle.planar.specs.Rings.{ring_cell, long_past, short_past}
use Rattle.planar.specs.Window.{image_of}
use Rattle.planar.proofs.Cells.{by_parts}
use Rattle.planar.proofs.Rings.{ringed_back, ringed_ring}
use Rattle.ps_decorr.specs.Channels.{channel_in, plain_with}
use Rattle.ps_decorr.proofs.Held.{plain_length, short_held, long_held}
use Rattle.ps_decorr_allpass.specs.Memory.{lane_of, channel_of, delays_with}
use Rattle.ps_decorr_allpass.proofs.Places.{place_of, lane_at, lane_held}
use Rattle.ps_decorr_allpass.proofs.Rings.{cell_silent}
use Rattle.ps_decorr_transient.specs.Gains.{detector_of, detector_numbers, detectors_with}
use Rattle.ps_stereo.specs.declared.PsStereo.{PsStereo}
use Rattle.ps_stereo.specs.Kept.{kept_in, matrices_with, phases_with, stereo_with}
use Rattle.standard.specs.Channel.{Channel, silent, back}
use Rattle.standard.specs.Core as core
use Rattle.standard.specs.Detector.{Detector, calm}
use Rattle.standard.specs.Mixing.{Kept, no_matrix, fresh_kept}
use Rattle.standard.specs.Numbers.{zero, nought}
use Rattle.ps_state.specs.declared.PsDecoder.{PsDecoder}
use Rattle.ps_state.specs.Shape.{Shaped}
use Rattle.ps_state.specs.State.{fresh_decoder, core_of, playing_of, history_with, turn_after, stored}
use Rattle.ps_state.proofs.Images.{laid_length, laid_part, laid_at, laid_first, part_repeated, image_length, Held, held_image, held_silent, Chained, rings_chained}

-- ---- a channel is near where the cells that hold it are

pub near_channel : (l : Layout) (k t : ℕ) (delays plain : List Float) (c : Channel)
    → (k < all_pass_of l → Chained (channel_of t (lane_of delays k)) c)
    → (all_pass_of l ≤ k → k < short_delay_of l → Alike 14 (long_past t plain (k - all_pass_of l)) c.past)
    → (short_delay_of l ≤ k → Alike 1 (short_past plain (k - short_delay_of l)) c.past)
    → NearChannel l k (channel_in l t delays plain k) c
unfolding channel_in
near_channel l k t delays plain c chain far close = go (ltb k (all_pass_of l)) (ltb k (short_delay_of l)) refl refl
  where
    go : (s u : Bool) → ltb k (all_pass_of l) ≡ s → ltb k (short_delay_of l) ≡ u → NearChannel l k (channel_in l t delays plain k) c
    go true u e f =
        let here : k < all_pass_of l = ltb-true k (all_pass_of l) e in
        record {
          past = rw e (chain here).past;
          first = λ u. rw e (chain here).first;
          second = λ u. rw e (chain here).second;
          third = λ u. rw e (chain here).third;
        }
    go false true e f =
        let behind : all_pass_of l ≤ k = ltb-false k (all_pass_of l) e in
        record {
          past = rw (e, f) (far behind (ltb-true k (short_delay_of l) f));
          first = λ u. absurd (omega arith);
          second = λ u. absurd (omega arith);
          third = λ u. absurd (omega arith);
        }
    go false false e f =
        let behind : all_pass_of l ≤ k = ltb-false k (all_pass_of l) e in
        record {
          past = rw (e, f) (close (ltb-false k (short_delay_of l) f));
          first = λ u. absurd (omega arith);
          second = λ u. absurd (omega arith);
          third = λ u. absurd (omega arith);
        }

-- ---- the lists that hold a state

module _ (l : Layout) (past : ℕ → List Complex) (old : List Float) where
  history_length : length old ≡ 60 → length (history_with l past old) ≡ 60
  unfolding history_with
  history_length long = laid_length 12 (split_of l) (λ p. image_of 6 (past p)) old (λ p. image_length 6 (past p)) (omega (arith, (bounds l).split)) ∙ long

  history_held : (p : ℕ) → p < split_of l → Held 6 (part (12 * p) 12 (history_with l past old)) (past p)
  unfolding history_with
  history_held p u =
      held_image 6 (part (12 * p) 12 (history_with l past old)) (past p)
      (laid_part 12 (split_of l) (λ p. image_of 6 (past p)) old (λ p. image_length 6 (past p)) p u)

channel_near : (l : Layout) (t : ℕ) (channel : ℕ → Channel) (old : List Float) → length old ≡ 1456 → (k : ℕ) → k < channels_of l
    → NearChannel l k (channel_in l t (delays_with l t channel old) (plain_with l t channel) k) (channel k)
channel_near l t channel old long k u =
    let n = bounds l in
    near_channel l k t (delays_with l t channel old) (plain_with l t channel) (channel k)
    (λ v. rings_chained t (lane_of (delays_with l t channel old) k) (channel k) (λ j w. lane_held k j w l t channel old long v))
    (λ h v.
    let same : all_pass_of l + (k - all_pass_of l) ≡ k = omega arith in
    ringed_ring 14 t (λ r. cell 1 (plain_with l t channel) (24 * r + 2 * (k - all_pass_of l))) (channel k).past
    (λ r w. long_held l channel t r (k - all_pass_of l) w (omega (arith, n.short)) ∙ ap (λ (m : ℕ). ring_cell 14 t (channel m).past r) same))
    (λ h i v.
    let same : short_delay_of l + (k - short_delay_of l) ≡ k = omega arith in
    tabulate_at (λ i. cell 1 (plain_with l t channel) (336 + 2 * (k - short_delay_of l))) 1 i nought v
    ∙ short_held l channel t (k - short_delay_of l) (omega (arith, n.last))
    ∙ ap (λ (m : ℕ). back 0 (channel m).past) same
    ∙ ap (λ (m : ℕ). back m (channel k).past) (omega arith))

module _ (l : Layout) (detector : ℕ → Detector) (old : List Float) where
  detectors_length : length old ≡ 102 → length (detectors_with l detector old) ≡ 102
  unfolding detectors_with
  detectors_length long = laid_length 3 (bands_of l) (λ b. detector_numbers (detector b)) old (λ b. refl) (omega (arith, (bounds l).bands)) ∙ long

  detector_held : (b : ℕ) → b < bands_of l → detector_of (detectors_with l detector old) b ≡ detector b
  unfolding detectors_with
  detector_held b u =
      λ i.
      record {
        peak = laid_first 3 (bands_of l) (λ b. detector_numbers (detector b)) old (λ b. refl) b nan u (omega arith) i;
        smooth = laid_at 3 (bands_of l) (λ b. detector_numbers (detector b)) old (λ b. refl) b 1 nan u (omega arith) i;
        difference = laid_at 3 (bands_of l) (λ b. detector_numbers (detector b)) old (λ b. refl) b 2 nan u (omega arith) i;
      }

module _ (l : Layout) (kept : ℕ → Kept) where
  matrices_length : (old : List Float) → length old ≡ 272 → length (matrices_with l kept old) ≡ 272
  unfolding matrices_with
  matrices_length old long = laid_length 8 (bands_of l) (λ b. numbers_of (kept b).matrix) old (λ b. refl) (omega (arith, (bounds l).bands)) ∙ long

  phases_length : (old : List ℤ) → length old ≡ 136 → length (phases_with l kept old) ≡ 136
  unfolding phases_with
  phases_length old long =
      laid_length 4 (bands_of l) (λ b. phase_numbers (kept b).ipd (kept b).opd) old (λ b. refl) (omega (arith, (bounds l).bands)) ∙ long

  kept_held : (old : PsStereo) (b : ℕ) → b < bands_of l → kept_in (stereo_with l kept old).matrices (stereo_with l kept old).phases b ≡ kept b
  unfolding matrices_with phases_with
  kept_held old b u = λ i. record { matrix = matrix i; ipd = record { oldest = first i; previous = at 1 (omega arith) i }; opd = record { oldest = at 2 (omega arith) i; previous = at 3 (omega arith) i } }
    where
      matrix : kept_matrix (part (8 * b) 8 (matrices_with l kept old.matrices)) ≡ (kept b).matrix
      matrix = ap kept_matrix (laid_part 8 (bands_of l) (λ b. numbers_of (kept b).matrix) old.matrices (λ b. refl) b u)

      phases : ℕ → List ℤ
      phases b = phase_numbers (kept b).ipd (kept b).opd

      first : get_or (phases_with l kept old.phases) (4 * b) (pos 0) ≡ (kept b).ipd.oldest
      first = laid_first 4 (bands_of l) phases old.phases (λ b. refl) b (pos 0) u (omega arith)

      at : (i : ℕ) → i < 4 → get_or (phases_with l kept old.phases) (4 * b + i) (pos 0) ≡ get_or (phases b) i (pos 0)
      at i v = laid_at 4 (bands_of l) phases old.phases (λ b. refl) b i (pos 0) u v

-- ---- a decoder that holds a state

module _ (old : PsDecoder) (s : Playing) (shape : Shaped old) where
  pub shaped_stored : Shaped (stored old s)
  unfolding stored delays_with
  shaped_stored =
      record {
        delays = tabulate_length _ (length old.decorr.delays) ∙ shape.delays;
        plain = plain_length s.core.layout s.core.channel (turn_after old s.slots);
        detectors = detectors_length s.core.layout s.core.detector old.decorr.detectors shape.detectors;
        matrices = matrices_length s.core.layout s.core.kept old.stereo.matrices shape.matrices;
        phases = phases_length s.core.layout s.core.kept old.stereo.phases shape.phases;
        history = history_length s.core.layout s.past old.history shape.history;
      }

  core_near : NearCore (core_of (stored old s)) s.core
  unfolding stored core_of
  core_near =
      record {
        layout = refl;
        cued = refl;
        channel = channel_near s.core.layout (turn_after old s.slots) s.core.channel old.decorr.delays shape.delays;
        detector = detector_held s.core.layout s.core.detector old.decorr.detectors;
        kept = kept_held s.core.layout s.core.kept old.stereo;
      }

  pub near_stored : s.slots ≡ slots_of old.asked → Near (playing_of (stored old s)) s
  unfolding stored playing_of core_of
  near_stored slots =
      record {
        slots = sym slots;
        lines = refl;
        past = history_held s.core.layout s.past old.history;
        core = core_near;
      }

-- ---- a fresh decoder

-- silent cells hold silence, after any number of slots
pub near_quiet : (l : Layout) (k t : ℕ) (delays plain : List Float)
    → (k < all_pass_of l → (j : ℕ) → j < 14 → lane_of delays k j ≡ nought)
    → (all_pass_of l ≤ k → k < short_delay_of l → (r : ℕ) → r < 14 → cell 1 plain (24 * r + 2 * (k - all_pass_of l)) ≡ nought)
    → (short_delay_of l ≤ k → cell 1 plain (336 + 2 * (k - short_delay_of l)) ≡ nought)
    → NearChannel l k (channel_in l t delays plain k) silent
near_quiet l k t delays plain chain far close =
    near_channel l k t delays plain silent
    (λ u. rings_chained t (lane_of delays k) silent (λ j v. chain u j v ∙ sym (cell_silent t j)))
    (λ u v i w.
    ringed_back 14 t (λ r. cell 1 plain (24 * r + 2 * (k - all_pass_of l))) i w ∙ far u v (age 14 t i) (age_small 14 t i (omega arith)))
    (λ u i v. tabulate_at (λ i. cell 1 plain (336 + 2 * (k - short_delay_of l))) 1 i nought v ∙ close u)

zeros_at : (n apart at : ℕ) → at + apart < n → cell apart (replicate n zero) at ≡ nought
zeros_at n apart at room = by_parts (get_or-replicate n at zero nan (omega arith)) (get_or-replicate n (at + apart) zero nan room)

pub near_silent : (l : Layout) (k : ℕ) → k < channels_of l
    → NearChannel l k (channel_in l 0 (replicate 1456 zero) (replicate 394 zero) k) silent
near_silent l k u =
    let n = bounds l in
    near_quiet l k 0 (replicate 1456 zero) (replicate 394 zero)
    (λ v j w. lane_at k j w (replicate 1456 zero) ∙ zeros_at 1456 4 (place_of k j) (omega (arith, n.all_pass)))
    (λ v w r x. zeros_at 394 1 (24 * r + 2 * (k - all_pass_of l)) (omega (arith, n.short)))
    (λ v. zeros_at 394 1 (336 + 2 * (k - short_delay_of l)) (omega (arith, n.last)))

pub fresh_detector : (b : ℕ) → b < 34 → detector_of (replicate 102 zero) b ≡ calm
fresh_detector b u = λ i. record { peak = at (3 * b) (omega arith) i; smooth = at (3 * b + 1) (omega arith) i; difference = at (3 * b + 2) (omega arith) i }
  where
    at : (i : ℕ) → i < 102 → get_or (replicate 102 zero) i nan ≡ zero
    at i v = get_or-replicate 102 i zero nan v

fresh_kept_lem : (b : ℕ) → b < 34 → kept_in (replicate 272 zero) (replicate 136 (pos 0)) b ≡ fresh_kept
fresh_kept_lem b u =
    λ i.
    record {
      matrix = matrix i;
      ipd = record { oldest = at (4 * b) (omega arith) i; previous = at (4 * b + 1) (omega arith) i };
      opd = record { oldest = at (4 * b + 2) (omega arith) i; previous = at (4 * b + 3) (omega arith) i };
    }
  where
    matrix : kept_matrix (part (8 * b) 8 (replicate 272 zero)) ≡ no_matrix
    matrix = ap kept_matrix (part_repeated (8 * b) 8 272 zero (omega arith))

    at : (i : ℕ) → i < 136 → get_or (replicate 136 (pos 0)) i (pos 0) ≡ pos 0
    at i v = get_or-replicate 136 i (pos 0) (pos 0) v

module _ (asked : ℕ) where
  pub shaped_fresh : Shaped (fresh_decoder asked)
  shaped_fresh =
      record {
        delays = length-replicate 1456 zero;
        plain = length-replicate 394 zero;
        detectors = length-replicate 102 zero;
        matrices = length-replicate 272 zero;
        phases = length-replicate 136 (pos 0);
        history = length-replicate 60 zero;
      }

  pub near_fresh : Near (playing_of (fresh_decoder asked)) (fresh asked)
  unfolding playing_of core_of fresh core.fresh
  near_fresh =
      record {
        slots = refl;
        lines = refl;
        past = λ p u. held_silent 6 (part (12 * p) 12 (replicate 60 zero)) (part_repeated (12 * p) 12 60 zero (omega arith));
        core =
            record {
              layout = refl;
              cued = refl;
              channel = near_silent Bands20;
              detector = λ b u. fresh_detector b (omega arith);
              kept = λ b u. fresh_kept_lem b (omega arith);
            };
      }
