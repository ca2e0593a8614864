-- A call through memory, from what the memory's functions and the decoder promise of their parts. Assumes nothing.
use mathlib.Core.Path.{◌≡◌, sym, ap, ap₂, ◌∙◌}
use mathlib.Core.Logic.{◌≢◌}
use mathlib.Core.List.{List, ◌++◌}
use Prim.Native.Nat.{ℕ}
use native.Mathlib.Omega.{arith}
use borrow.Author.Tests.{eq-eqb, ne_eqb}
use borrow.Rule.Slice.PartMut.{same_len_mid, put_same}
use lib.Ieee.{Float}
use lib.ListN.{length, take, drop}
use lib.Seq.{length-take-le, drop_at}
use Rattle.answer.specs.declared.Answer.TheVariants.{Done, Buffers}
use Rattle.answer.specs.Number.{number_of}
use Rattle.calls.specs.Call.{Call, answer, played}
use Rattle.lists.specs.Part.{part, put}
use Rattle.lists.proofs.Parts.{part_length, tail_back}
use Rattle.ps_decoder.specs.Frame.{Answered, decoder_after, Returned, returned, returned_by}
use Rattle.ps_memory.specs.Place as place
use Rattle.ps_memory.specs.Place.{numbers, sound_at, small_image, image, carried_in, loaded, loaded_from, stored_in}
use Rattle.ps_state.specs.declared.PsCarried.{PsCarried}
use Rattle.ps_state.specs.declared.PsDecoder.{PsDecoder}
use Rattle.ps_state.specs.State.{sound_long, carried_of, sound_of, playing_of}
use Rattle.ps_state.proofs.Lent.{sound_in}
use Rattle.lefasumu.specs.Api.{started, started_in, called, called_of, called_in}

-- ---- a start

module _ (m : List Float) (slots number : ℕ) where
  -- memory of another length
  pub start_refused : length m ≢ numbers → number ≡ number_of Buffers → started number m ≡ started_in m slots
  unfolding started_in
  start_refused other told = rw (told, ne_eqb (length m) numbers other)

  pub start_done : length m ≡ numbers → number ≡ number_of Done → (memory : List Float) → memory ≡ place.started_in slots m → started number memory ≡ started_in m slots
  unfolding started_in place.started_in
  start_done l told memory stored = rw (told, stored, eq-eqb (length m) numbers l)

-- ---- a frame

-- memory of another length
pub call_refused : (m : List Float) (c : Call) (number : ℕ) → length m ≢ numbers → number ≡ number_of Buffers → called number m c.left c.right ≡ called_in m c
unfolding called_in
call_refused m c number other told = rw (told, ne_eqb (length m) numbers other)

-- where the sound of the memory is lent, and comes back
module _ (m : List Float) (c : Call) (k : PsCarried) (r : Answered) (sound left right : List Float) (number : ℕ) (long : length m ≡ numbers) (held : k ≡ loaded_from m)
    (plays : returned r sound left right ≡ returned_by k (part sound_at sound_long m) c) (kept : length sound ≡ length (part sound_at sound_long m))
    (told : number ≡ number_of r.answer) where
  -- the state that the memory holds, and the one after the call
  abbrev before : PsDecoder
  before = loaded m

  abbrev next : PsDecoder
  next = decoder_after before c

  abbrev back : List Float
  back = put sound_at sound_long m sound

  lent_length : length (part sound_at sound_long m) ≡ sound_long
  lent_length = part_length sound_at sound_long m (omega arith)

  small : k ≡ carried_in m
  unfolding loaded_from
  small = held ∙ rw (eq-eqb (length m) numbers long)

  result : returned r sound left right
      ≡ returned (record { answer = answer (playing_of before) c; carried = carried_of next }) (sound_of next) (played (playing_of before) c).left (played (playing_of before) c).right
  unfolding returned_by loaded
  result =
      plays
      ∙ ap (λ (s : PsCarried). returned_by s (part sound_at sound_long m) c) small
      ∙ rw (eq-eqb (length (part sound_at sound_long m)) sound_long lent_length)

  number_is : number ≡ number_of (answer (playing_of before) c)
  number_is = told ∙ ap (λ (p : Returned). number_of p.answered.answer) result

  in_memory : called_of m before c ≡ called_in m c
  unfolding called_in
  in_memory = rw (eq-eqb (length m) numbers long)

  -- what is small is stored before the sound
  back_length : length back ≡ numbers
  back_length = same_len_mid sound_at sound_long m sound kept ∙ long

  behind : drop sound_at back ≡ sound
  behind = ap (drop sound_at) (tail_back sound_at sound_long m sound (omega arith)) ∙ drop_at (take sound_at m) sound sound_at (length-take-le sound_at m (omega arith))

  image_back : (memory : List Float) → memory ≡ stored_in r.carried back → memory ≡ image next
  unfolding stored_in image
  image_back memory stored =
      stored
      ∙ rw (eq-eqb (length back) numbers back_length)
      (ap₂ (λ (s : PsCarried) (t : List Float). small_image s ++ t) (ap (λ (p : Returned). p.answered.carried) result) (behind ∙ ap (λ (p : Returned). p.sound) result))

  pub accepted : r.answer ≡ Done → (memory : List Float) → memory ≡ stored_in r.carried back → called number memory left right ≡ called_in m c
  unfolding called_of
  accepted done memory stored =
      let zero : number_of (answer (playing_of before) c) ≡ 0 = sym number_is ∙ told ∙ ap number_of done in
      let call : called number memory left right ≡ called_of m before c =
      rw (image_back memory stored, ap (λ (p : Returned). p.left) result, ap (λ (p : Returned). p.right) result, number_is, zero) in
      call ∙ in_memory

  -- a state that is left as it was has the sound that was lent
  same_memory : number_of (answer (playing_of before) c) ≢ 0 → back ≡ m
  unfolding decoder_after loaded
  same_memory other =
      let stays : next ≡ before = rw (ne_eqb (number_of (answer (playing_of before) c)) 0 other) in
      ap (put sound_at sound_long m)
      (ap (λ (p : Returned). p.sound) result ∙ ap sound_of stays ∙ sound_in (carried_in m) (part sound_at sound_long m) lent_length)
      ∙ put_same sound_at sound_long m

  pub refused : number_of r.answer ≢ 0 → called number back left right ≡ called_in m c
  unfolding called_of
  refused other =
      let nonzero : number_of (answer (playing_of before) c) ≢ 0 = λ (e : number_of (answer (playing_of before) c) ≡ 0). other (sym told ∙ number_is ∙ e) in
      let call : called number back left right ≡ called_of m before c =
      rw (same_memory nonzero, ap (λ (p : Returned). p.left) result, ap (λ (p : Returned). p.right) result, number_is, ne_eqb (number_of (answer (playing_of before) c)) 0 nonzero) in
      call ∙ in_memory
