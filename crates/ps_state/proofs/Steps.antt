-- The steps of a state apart that is made ready: a change of layout, then the reset of both kinds of delays, each in its part of the sound. Assumes nothing.
use mathlib.Core.Path.{◌≡◌, sym, ap, ◌∙◌}
use mathlib.Core.Bool.{false}
use mathlib.Core.List.{List}
use Prim.Native.Nat.{ℕ, ◌+◌, ◌≤◌}
use native.Mathlib.Omega.{arith}
use borrow.Rule.Slice.PartMut.{same_len_mid}
use lib.Ieee.{Float}
use lib.IntN.{pos}
use lib.ListN.{length, drop, replicate, length-replicate}
use Rattle.layout.specs.declared.Layout.{Layout}
use Rattle.lists.specs.Part.{part, put}
use Rattle.lists.proofs.Parts.{part_front, part_length, part_put, part_put_before, part_put_behind}
use Rattle.ps_decorr.specs.State.{delays_reset, plain_reset, reset_from}
use Rattle.ps_stereo.specs.State.{remapped_to, remapped_in, switched_to}
use Rattle.standard.specs.Core.{same_layout}
use Rattle.standard.specs.Numbers.{zero}
use Rattle.ps_state.specs.declared.PsCarried.{PsCarried}
use Rattle.ps_state.specs.State.{delays_at, plain_at, detectors_at, matrices_at, sound_long, decoder_in, lent, apart_of}
use Rattle.ps_state.specs.Ready.{switched_from, cleared_place, readied, ready_in}
use Rattle.ps_state.proofs.Images.{part_repeated}
use Rattle.ps_state.proofs.Lent.{apart_in}
use Rattle.ps_state.proofs.Readied.{renewed, reset_in, delays_reset_length, plain_reset_length}
use Rattle.ps_state.proofs.Remapped.{remapped_length}

-- ---- a real change of layout: all before the coefficients is silent, and they are remapped

module _ (l : Layout) (s : PsCarried) (m q r : List Float) (long : length m ≡ sound_long)
    (silent : q ≡ replicate (length (part 0 matrices_at m)) zero) (mapped : r ≡ remapped_in l (part matrices_at 272 (put 0 matrices_at m q))) where
  abbrev quiet : List Float
  quiet = put 0 matrices_at m q

  abbrev changed : List Float
  changed = put matrices_at 272 quiet r

  abbrev after : PsCarried
  after = record { asked = s.asked; layout = l; cued = s.cued; lines = s.lines; phases = replicate 136 (pos 0); turn = 0 }

  lent_front : length (part 0 matrices_at m) ≡ matrices_at
  lent_front = part_length 0 matrices_at m (omega arith)

  zeros : q ≡ replicate matrices_at zero
  zeros = silent ∙ ap (λ (n : ℕ). replicate n zero) lent_front

  front_length : length q ≡ matrices_at
  front_length = ap length silent ∙ length-replicate (length (part 0 matrices_at m)) zero ∙ lent_front

  quiet_length : length quiet ≡ sound_long
  quiet_length = same_len_mid 0 matrices_at m q (front_length ∙ sym lent_front) ∙ long

  kept : part matrices_at 272 quiet ≡ part matrices_at 272 m
  kept = part_put_behind 0 matrices_at m q (omega arith) matrices_at 272 front_length (omega arith)

  lent_back : length (part matrices_at 272 quiet) ≡ 272
  lent_back = part_length matrices_at 272 quiet (omega (arith, quiet_length))

  back : r ≡ remapped_to l (part matrices_at 272 m)
  unfolding remapped_in
  back = mapped ∙ rw lent_back (ap (remapped_to l) kept)

  back_length : length r ≡ 272
  back_length = ap length back ∙ remapped_length l (part matrices_at 272 m)

  pub changed_length : length changed ≡ sound_long
  changed_length = same_len_mid matrices_at 272 quiet r (back_length ∙ sym lent_back) ∙ quiet_length

  -- a part before the coefficients
  silent_part : (a k : ℕ) → a + k ≤ matrices_at → part a k changed ≡ replicate k zero
  silent_part a k u =
      part_put_before matrices_at 272 quiet r (omega (arith, quiet_length)) a k u
      ∙ part_front a k q (drop matrices_at m) (omega (arith, front_length))
      ∙ ap (part a k) zeros
      ∙ part_repeated a k matrices_at zero u

  changed_state : decoder_in after changed ≡ renewed l (decoder_in s m)
  unfolding switched_to
  changed_state =
      λ i.
      record {
        asked = s.asked;
        layout = l;
        cued = s.cued;
        lines = s.lines;
        history = silent_part 0 60 (omega arith) i;
        decorr =
            record {
              turn = 0;
              delays = silent_part delays_at 1456 (omega arith) i;
              plain = silent_part plain_at 394 (omega arith) i;
              detectors = silent_part detectors_at 102 (omega arith) i;
            };
        stereo =
            record {
              matrices = (part_put matrices_at 272 quiet r (omega (arith, quiet_length)) back_length ∙ back) i;
              phases = replicate 136 (pos 0);
            };
      }

  pub changed_decoder : same_layout s.layout l ≡ false → decoder_in after changed ≡ switched_from l (decoder_in s m)
  unfolding switched_from
  changed_decoder other = changed_state ∙ rw other

-- ---- the reset

module _ (l : Layout) (place : ℕ) (s : PsCarried) (m a b : List Float) (long : length m ≡ sound_long)
    (chains : a ≡ delays_reset l place (part delays_at 1456 m)) (delays : b ≡ plain_reset l place (part plain_at 394 (put delays_at 1456 m a))) where
  abbrev once : List Float
  once = put delays_at 1456 m a

  abbrev twice : List Float
  twice = put plain_at 394 once b

  lent_chains : length (part delays_at 1456 m) ≡ 1456
  lent_chains = part_length delays_at 1456 m (omega arith)

  chains_length : length a ≡ 1456
  chains_length = ap length chains ∙ delays_reset_length l place (part delays_at 1456 m) ∙ lent_chains

  once_length : length once ≡ sound_long
  once_length = same_len_mid delays_at 1456 m a (chains_length ∙ sym lent_chains) ∙ long

  lent_plain : length (part plain_at 394 once) ≡ 394
  lent_plain = part_length plain_at 394 once (omega (arith, once_length))

  plain_length : length b ≡ 394
  plain_length = ap length delays ∙ plain_reset_length l place (part plain_at 394 once) ∙ lent_plain

  twice_length : length twice ≡ sound_long
  twice_length = same_len_mid plain_at 394 once b (plain_length ∙ sym lent_plain) ∙ once_length

  -- a part behind both
  behind_once : (c k : ℕ) → plain_at ≤ c → part c k once ≡ part c k m
  behind_once c k u = part_put_behind delays_at 1456 m a (omega arith) c k chains_length u

  behind_twice : (c k : ℕ) → detectors_at ≤ c → part c k twice ≡ part c k m
  behind_twice c k u = part_put_behind plain_at 394 once b (omega (arith, once_length)) c k plain_length u ∙ behind_once c k (omega arith)

  -- and one before the plain delays
  before_twice : (c k : ℕ) → c + k ≤ plain_at → part c k twice ≡ part c k once
  before_twice c k u = part_put_before plain_at 394 once b (omega (arith, once_length)) c k u

  module _ (edge : ℕ) (here : place ≡ cleared_place l edge s.cued) where
    reset_chains : part delays_at 1456 twice ≡ delays_reset l (cleared_place l edge s.cued) (part delays_at 1456 m)
    reset_chains =
        before_twice delays_at 1456 (omega arith)
        ∙ part_put delays_at 1456 m a (omega arith) chains_length
        ∙ chains
        ∙ ap (λ (p : ℕ). delays_reset l p (part delays_at 1456 m)) here

    reset_plain : part plain_at 394 twice ≡ plain_reset l (cleared_place l edge s.cued) (part plain_at 394 m)
    reset_plain =
        part_put plain_at 394 once b (omega (arith, once_length)) plain_length
        ∙ delays
        ∙ ap (plain_reset l place) (behind_once plain_at 394 (omega arith))
        ∙ ap (λ (p : ℕ). plain_reset l p (part plain_at 394 m)) here

    reset_state : decoder_in s twice ≡ reset_in l edge (decoder_in s m)
    unfolding reset_from
    reset_state =
        λ i.
        record {
          asked = s.asked;
          layout = s.layout;
          cued = s.cued;
          lines = s.lines;
          history = (before_twice 0 60 (omega arith) ∙ part_put_before delays_at 1456 m a (omega arith) 0 60 (omega arith)) i;
          decorr =
              record {
                turn = s.turn;
                delays = reset_chains i;
                plain = reset_plain i;
                detectors = behind_twice detectors_at 102 (omega arith) i;
              };
          stereo = record { matrices = behind_twice matrices_at 272 (omega arith) i; phases = s.phases };
        }

    -- of a state that was switched
    pub made_ready : (carried : PsCarried) (before : List Float) → length before ≡ sound_long → decoder_in s m ≡ switched_from l (decoder_in carried before)
        → lent s twice ≡ ready_in l edge carried before
    unfolding ready_in readied
    made_ready carried before whole switched =
        rw whole (sym (apart_in s twice twice_length) ∙ ap apart_of (reset_state ∙ ap (reset_in l edge) switched))
