-- A call of a state apart, whose sound is lent, by the call of the state put together, and back. Assumes nothing.
use mathlib.Core.Path.{◌≡◌, sym, ap, ◌∙◌}
use mathlib.Core.Logic.{◌≢◌}
use mathlib.Core.List.{List}
use borrow.Author.Tests.{eq-eqb, ne_eqb}
use lib.Ieee.{Float}
use lib.ListN.{length}
use Rattle.answer.specs.declared.Answer.{Answer}
use Rattle.answer.specs.declared.Answer.TheVariants.{Buffers}
use Rattle.answer.specs.Number.{number_of}
use Rattle.calls.specs.Call.{Call, answer, played}
use Rattle.ps_state.specs.declared.PsCarried.{PsCarried}
use Rattle.ps_state.specs.declared.PsDecoder.{PsDecoder}
use Rattle.ps_state.specs.State.{sound_long, decoder_in, carried_of, sound_of, playing_of}
use Rattle.ps_state.specs.Shape.{Shaped}
use Rattle.ps_state.proofs.Lent.{heard, heard_in, sound_in, sound_length, decoder_apart}
use Rattle.ps_decoder.specs.Frame.{Answered, Played, decoder_after, played_by, Returned, returned, returned_by}
use Rattle.ps_decoder.proofs.Refusals.{Left, unchanged}
use Rattle.ps_decoder.proofs.Run.{shaped_after}

-- a state of sound that is long enough, whose phases are of their type
pub shaped_in : (s : PsCarried) (m : List Float) → length m ≡ sound_long → length s.phases ≡ 136 → Shaped (decoder_in s m)
shaped_in s m long turned =
    let h = heard_in s m long in
    record { history = h.history; delays = h.delays; plain = h.plain; detectors = h.detectors; matrices = h.matrices; phases = turned }

-- the state that an answer leaves, put together
abbrev pub joined : Answered → List Float → Played
joined r sound = record { answer = r.answer; state = decoder_in r.carried sound }

module _ (s : PsCarried) (m : List Float) (c : Call) where
  -- sound of another length
  pub other_length : length m ≢ sound_long → returned (record { answer = Buffers; carried = s }) m c.left c.right ≡ returned_by s m c
  unfolding returned_by
  other_length ne = rw (ne_eqb (length m) sound_long ne)

  -- and of this one
  pub lent_told : (r : Answered) (sound left right : List Float) → length m ≡ sound_long → length sound ≡ sound_long → Left (decoder_in s m) c (joined r sound) left right
      → returned r sound left right ≡ returned_by s m c
  unfolding returned_by played_by
  lent_told r sound left right long kept told =
      let state : (joined r sound).state ≡ decoder_after (decoder_in s m) c = ap (λ (p : Played). p.state) told.0 in
      let sound_is : sound ≡ sound_of (decoder_after (decoder_in s m) c) = sym (sound_in r.carried sound kept) ∙ ap sound_of state in
      rw (eq-eqb (length m) sound_long long)
      (λ i. record {
        answered = record { answer = (told.0 i).answer; carried = carried_of (told.0 i).state };
        sound = sound_is i;
        left = told.1.0 i;
        right = told.1.1 i;
      })

  -- a refusal leaves what is small as it was too
  pub lent_refused : (a : Answer) → length m ≡ sound_long → Left (decoder_in s m) c (record { answer = a; state = decoder_in s m }) c.left c.right
      → returned (record { answer = a; carried = s }) m c.left c.right ≡ returned_by s m c
  lent_refused a long told = lent_told (record { answer = a; carried = s }) m c.left c.right long long told

-- a whole state, taken apart for the call
module _ (s : PsDecoder) (shaped : Shaped s) (c : Call) where
  abbrev returned_from : PsDecoder → Returned
  returned_from d =
      returned (record { answer = answer (playing_of d) c; carried = carried_of (decoder_after d c) }) (sound_of (decoder_after d c)) (played (playing_of d) c).left (played (playing_of d) c).right

  apart_is : returned_by (carried_of s) (sound_of s) c ≡ returned_from s
  unfolding returned_by
  apart_is = rw (eq-eqb (length (sound_of s)) sound_long (sound_length s (heard shaped))) (ap returned_from (decoder_apart s (heard shaped)))

  pub whole_told : (r : Answered) (sound left right : List Float) (next : PsDecoder) → next ≡ decoder_in r.carried sound
      → returned r sound left right ≡ returned_by (carried_of s) (sound_of s) c → Left s c (record { answer = r.answer; state = next }) left right
  unfolding played_by
  whole_told r sound left right next joins told =
      let is : returned r sound left right ≡ returned_from s = told ∙ apart_is in
      let state : next ≡ decoder_after s c
      = joins ∙ ap (λ (t : Returned). decoder_in t.answered.carried t.sound) is ∙ decoder_apart (decoder_after s c) (heard (shaped_after s c shaped)) in (
        λ i. record { answer = (is i).answered.answer; state = state i },
        (ap (λ (t : Returned). t.left) is, ap (λ (t : Returned). t.right) is),
      )

  -- a call that is not accepted leaves the whole state
  pub whole_refused : (a : Answer) (sound left right : List Float) → number_of a ≢ 0
      → returned (record { answer = a; carried = carried_of s }) sound left right ≡ returned_by (carried_of s) (sound_of s) c
      → Left s c (record { answer = a; state = s }) left right
  whole_refused a sound left right other told =
      let is : returned (record { answer = a; carried = carried_of s }) sound left right ≡ returned_from s = told ∙ apart_is in
      let said : a ≡ answer (playing_of s) c = ap (λ (t : Returned). t.answered.answer) is in
      ((unchanged s c a (sym said) other).0, (ap (λ (t : Returned). t.left) is, ap (λ (t : Returned). t.right) is))
