-- A state apart: what is small in it and its numbers of sound are that state again, where the lengths are right. Assumes nothing.
use mathlib.Core.Path.{◌≡◌, sym, ap, ◌∙◌}
use mathlib.Core.List.{List, ◌++◌}
use Prim.Native.Nat.{ℕ, ◌+◌}
use native.Mathlib.Omega.{arith}
use lib.Ieee.{Float}
use lib.ListN.{length, take, drop, replicate, length-append, take-append-drop, replicate-append-replicate}
use lib.Seq.{take_all, drop-drop, take_at, drop_at}
use Rattle.lists.specs.Part.{part}
use Rattle.lists.proofs.Parts.{tail_lent, part_length}
use Rattle.standard.specs.Numbers.{zero}
use Rattle.ps_state.specs.declared.PsCarried.{PsCarried}
use Rattle.ps_state.specs.declared.PsDecoder.{PsDecoder}
use Rattle.ps_state.specs.Shape.{Shaped}
use Rattle.ps_state.specs.State.{sound_long, delays_at, plain_at, detectors_at, matrices_at, decoder_in, carried_of, sound_of, lent, apart_of, fresh_decoder}

module _ {A : Type 0} where
  -- a part, and all behind it
  part_then : (a k : ℕ) (xs : List A) → part a k xs ++ drop (a + k) xs ≡ drop a xs
  part_then a k xs = ap (λ (t : List A). part a k xs ++ t) (sym (drop-drop k a xs)) ∙ take-append-drop k (drop a xs)

  -- a part of what stands behind n others
  part_past : (n a k : ℕ) (p q : List A) → length p ≡ n → part (n + a) k (p ++ q) ≡ part a k q
  part_past n a k p q e = ap (take k) (sym (drop-drop a n (p ++ q)) ∙ ap (drop a) (drop_at p q n e))

-- ---- the numbers of the state that they are

module _ (s : PsCarried) (m : List Float) (long : length m ≡ sound_long) where
  pub sound_in : sound_of (decoder_in s m) ≡ m
  unfolding sound_of
  sound_in = rw (tail_lent matrices_at 272 m (omega arith), part_then detectors_at 102 m, part_then plain_at 394 m, part_then delays_at 1456 m, part_then 0 60 m)

  pub apart_in : apart_of (decoder_in s m) ≡ lent s m
  apart_in = ap (lent s) sound_in

-- ---- the state of its numbers

-- the lengths of what its sound is made of
pub record Heard (s : PsDecoder) : Type 0 where
  pub history : length s.history ≡ 60
  pub delays : length s.decorr.delays ≡ 1456
  pub plain : length s.decorr.plain ≡ 394
  pub detectors : length s.decorr.detectors ≡ 102
  pub matrices : length s.stereo.matrices ≡ 272

pub heard : {s : PsDecoder} → Shaped s → Heard s
heard shape = record { history = shape.history; delays = shape.delays; plain = shape.plain; detectors = shape.detectors; matrices = shape.matrices }

-- numbers of the right length are so
pub heard_in : (s : PsCarried) (m : List Float) → length m ≡ sound_long → Heard (decoder_in s m)
heard_in s m long =
    record {
      history = part_length 0 60 m (omega arith);
      delays = part_length delays_at 1456 m (omega arith);
      plain = part_length plain_at 394 m (omega arith);
      detectors = part_length detectors_at 102 m (omega arith);
      matrices = part_length matrices_at 272 m (omega arith);
    }

module _ (s : PsDecoder) where
  -- all behind the plain delays, behind the rings, and behind the history
  abbrev third : List Float
  third = s.decorr.detectors ++ s.stereo.matrices

  abbrev second : List Float
  second = s.decorr.plain ++ third

  abbrev first : List Float
  first = s.decorr.delays ++ second

module _ (s : PsDecoder) (shape : Heard s) where
  pub sound_length : length (sound_of s) ≡ sound_long
  unfolding sound_of
  sound_length = rw (length-append, length-append, length-append, length-append, shape.history, shape.delays, shape.plain, shape.detectors, shape.matrices)

  past_one : (a k : ℕ) → part (60 + a) k (sound_of s) ≡ part a k (first s)
  unfolding sound_of
  past_one a k = part_past 60 a k s.history (first s) shape.history

  past_two : (a k : ℕ) → part (60 + (1456 + a)) k (sound_of s) ≡ part a k (second s)
  past_two a k = past_one (1456 + a) k ∙ part_past 1456 a k s.decorr.delays (second s) shape.delays

  past_three : (a k : ℕ) → part (60 + (1456 + (394 + a))) k (sound_of s) ≡ part a k (third s)
  past_three a k = past_two (394 + a) k ∙ part_past 394 a k s.decorr.plain (third s) shape.plain

  pub decoder_apart : decoder_in (carried_of s) (sound_of s) ≡ s
  unfolding sound_of
  decoder_apart =
      λ i.
      record {
        asked = s.asked;
        layout = s.layout;
        cued = s.cued;
        lines = s.lines;
        history = history i;
        decorr = record { turn = s.decorr.turn; delays = delays i; plain = plain i; detectors = detectors i };
        stereo = record { matrices = matrices i; phases = s.stereo.phases };
      }
    where
      history : part 0 60 (sound_of s) ≡ s.history
      history = take_at s.history (first s) 60 shape.history

      delays : part delays_at 1456 (sound_of s) ≡ s.decorr.delays
      delays = past_one 0 1456 ∙ take_at s.decorr.delays (second s) 1456 shape.delays

      plain : part plain_at 394 (sound_of s) ≡ s.decorr.plain
      plain = past_two 0 394 ∙ take_at s.decorr.plain (third s) 394 shape.plain

      detectors : part detectors_at 102 (sound_of s) ≡ s.decorr.detectors
      detectors = past_three 0 102 ∙ take_at s.decorr.detectors s.stereo.matrices 102 shape.detectors

      matrices : part matrices_at 272 (sound_of s) ≡ s.stereo.matrices
      matrices =
          past_three 102 272
          ∙ part_past 102 0 272 s.decorr.detectors s.stereo.matrices shape.detectors
          ∙ take_all 272 s.stereo.matrices (omega (arith, shape.matrices))

-- a fresh state's are all zero
all_same : (a b c d e : ℕ) (z : Float) → replicate a z ++ (replicate b z ++ (replicate c z ++ (replicate d z ++ replicate e z))) ≡ replicate (a + (b + (c + (d + e)))) z
all_same a b c d e z = rw (replicate-append-replicate, replicate-append-replicate, replicate-append-replicate, replicate-append-replicate)

pub sound_fresh : (asked : ℕ) → sound_of (fresh_decoder asked) ≡ replicate sound_long zero
unfolding sound_of
sound_fresh asked = all_same 60 1456 394 102 272 zero
