-- A frame of the decoder, over its carried numbers: the outcome of the call that they stand for. Assumes nothing.
use Rattle.std.specs.Prelude.{ℕ, cond, List, eqb, Float, length, Result, Ok, Err}
use Rattle.answer.specs.declared.Answer.{Answer}
use Rattle.answer.specs.declared.Answer.TheVariants.{Done, Buffers}
use Rattle.answer.specs.Number.{number_of}
use Rattle.calls.specs.Call.{Call, answer, layout, after, played}
use Rattle.ps_state.specs.declared.PsCarried.{PsCarried}
use Rattle.ps_state.specs.declared.PsDecoder.{PsDecoder}
use Rattle.ps_state.specs.State.{sound_long, decoder_in, carried_of, sound_of, playing_of, stored}
use Rattle.ps_state.specs.Ready.{readied}

abbrev pub call_of : List ℕ → List Float → ℕ → List Float → List Float → Call
call_of line input edge left right = record { line = line; input = input; edge = edge; left = left; right = right }

-- the numbers after a call: those of the state that it leaves, or all as they were where it is not accepted
unfoldable pub decoder_after : PsDecoder → Call → PsDecoder
decoder_after s c = cond (eqb (number_of (answer (playing_of s) c)) 0) (stored (readied (layout (playing_of s) c) c.edge s) (after (playing_of s) c)) s

-- what a call answers, and the state after it
pub record Played : Type 0 where
  pub answer : Answer
  pub state : PsDecoder

-- one that is accepted hands out the next state; any other hands out its answer, and the state stays
abbrev pub answered_whole : PsDecoder → Result PsDecoder Answer → Played
answered_whole s (Ok next) = record { answer = Done; state = next }
answered_whole s (Err a) = record { answer = a; state = s }

unfoldable pub played_by : PsDecoder → Call → Played
played_by s c = record { answer = answer (playing_of s) c; state = decoder_after s c }

-- ---- a call of a state apart, whose sound is lent

pub record Answered : Type 0 where
  pub answer : Answer
  pub carried : PsCarried

abbrev pub answered : PsCarried → Result PsCarried Answer → Answered
answered s (Ok next) = record { answer = Done; carried = next }
answered s (Err a) = record { answer = a; carried = s }

pub record Returned : Type 0 where
  pub answered : Answered
  pub sound : List Float
  pub left : List Float
  pub right : List Float

abbrev pub returned : Answered → List Float → List Float → List Float → Returned
returned r sound left right = record { answered = r; sound = sound; left = left; right = right }

-- sound of another length is refused before all else, and everything left as it is
unfoldable pub returned_by : PsCarried → List Float → Call → Returned
returned_by s m c =
    let d = decoder_in s m in
    cond (eqb (length m) sound_long)
    (returned (record { answer = answer (playing_of d) c; carried = carried_of (decoder_after d c) }) (sound_of (decoder_after d c)) (played (playing_of d) c).left (played (playing_of d) c).right)
    (returned (record { answer = Buffers; carried = s }) m c.left c.right)
