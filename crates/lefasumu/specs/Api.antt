-- What a call through lent memory answers, and leaves: the decoder's own promise of the state that the memory holds. Assumes nothing.
use Rattle.std.specs.Prelude.{ℕ, List, cond, eqb, Float, length}
use Rattle.answer.specs.Number.{number_of}
use Rattle.answer.specs.declared.Answer.TheVariants.{Done, Buffers}
use Rattle.calls.specs.Call.{Call, answer, played}
use Rattle.ps_decoder.specs.Frame.{decoder_after}
use Rattle.ps_memory.specs.Place.{numbers, image, loaded}
use Rattle.ps_state.specs.declared.PsDecoder.{PsDecoder}
use Rattle.ps_state.specs.State.{fresh_decoder, playing_of}

-- ---- a start

pub record Started : Type 0 where
  pub answer : ℕ
  pub memory : List Float

abbrev pub started : ℕ → List Float → Started
started answer memory = record { answer = answer; memory = memory }

-- memory of another length is refused, and left as it is
unfoldable pub started_in : List Float → ℕ → Started
started_in m slots = cond (eqb (length m) numbers) (started (number_of Done) (image (fresh_decoder slots))) (started (number_of Buffers) m)

-- ---- a frame

pub record Called : Type 0 where
  pub answer : ℕ
  pub memory : List Float
  pub left : List Float
  pub right : List Float

abbrev pub called : ℕ → List Float → List Float → List Float → Called
called answer memory left right = record { answer = answer; memory = memory; left = left; right = right }

-- a call of a state: its memory is new only where it is accepted
unfoldable pub called_of : List Float → PsDecoder → Call → Called
called_of m s c =
    let number = number_of (answer (playing_of s) c) in
    called number (cond (eqb number 0) (image (decoder_after s c)) m) (played (playing_of s) c).left (played (playing_of s) c).right

-- memory of another length is refused before all else, and everything left as it is
unfoldable pub called_in : List Float → Call → Called
called_in m c = cond (eqb (length m) numbers) (called_of m (loaded m) c) (called (number_of Buffers) m c.left c.right)
