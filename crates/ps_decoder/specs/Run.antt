-- A run of the decoder from a fresh one, each call handed the numbers that the call before returned. Assumes nothing.
use Rattle.std.specs.Prelude.{ℕ, zero, suc, List, ◌≡◌, Float}
use Rattle.answer.specs.declared.Answer.{Answer}
use Rattle.calls.specs.Call.{Call, fresh, played}
use Rattle.calls.specs.Run.{outcome}
use Rattle.ps_state.specs.declared.PsDecoder.{PsDecoder}
use Rattle.ps_state.specs.State.{fresh_decoder, playing_of}
use Rattle.ps_decoder.specs.Frame.{played_by}

-- the numbers before call i
unfoldable pub decoder_at : ℕ → (ℕ → Call) → ℕ → PsDecoder
decoder_at asked c zero = fresh_decoder asked
decoder_at asked c (suc i) = (played_by (decoder_at asked c i) (c i)).state

-- what `frame` promises of call i: its answer, and both outputs
abbrev pub answer_at : ℕ → (ℕ → Call) → ℕ → Answer
answer_at asked c i = (played_by (decoder_at asked c i) (c i)).answer

abbrev pub left_at : ℕ → (ℕ → Call) → ℕ → List Float
left_at asked c i = (played (playing_of (decoder_at asked c i)) (c i)).left

abbrev pub right_at : ℕ → (ℕ → Call) → ℕ → List Float
right_at asked c i = (played (playing_of (decoder_at asked c i)) (c i)).right

-- call i of the decoder is call i of the definitions
pub record Told (asked : ℕ) (c : ℕ → Call) (i : ℕ) : Type 0 where
  pub answer : answer_at asked c i ≡ (outcome (fresh asked) c i).answer
  pub left : left_at asked c i ≡ (outcome (fresh asked) c i).left
  pub right : right_at asked c i ≡ (outcome (fresh asked) c i).right
