-- Document 01, 'The cue line': what a line says, or by which answer it is refused, in the order of the refusals. Assumes nothing.
use Rattle.std.specs.Prelude.{ℕ, ◌*◌, List, false, cond, not, ltb, eqb, length, replicate, Result, Ok, Err}
use Rattle.std.specs.Option.{is_some}
use Rattle.lists.specs.First.{before}
use Rattle.lists.specs.Padded.{padded}
use Rattle.limits.specs.Limits as limits
use Rattle.answer.specs.declared.Answer.{Answer}
use Rattle.answer.specs.declared.Answer.TheVariants.{Done, Character, Length, Field}
use Rattle.cue.specs.declared.Header.{Header}
use Rattle.cue.specs.declared.Cue.{Cue}
use Rattle.cue.specs.Digits.{is_digit, bytes_of, ragged}
use Rattle.cue.specs.Fields.{places_of, header_of}
use Rattle.cue.specs.Checks.{found, head_checks, body_checks}

-- the answer of reading: 0 where something was read
abbrev pub answer_of : {A : Type 0} → Result A Answer → Answer
answer_of (Ok x) = Done
answer_of (Err a) = a

-- an empty line brings no stereo data
abbrev pub no_header : Header
no_header =
    record {
      cued = false;
      config = record { iid = record { present = false; mode = 0 }; icc = record { present = false; mode = 0 } };
      variable = false;
      phase = false;
      envelopes = 0;
    }

-- a line that is read, with its bytes
abbrev pub cue_of : Header → List ℕ → Cue
cue_of h bytes = record { header = h; places = places_of h; bytes = bytes }

-- the bytes of a line of so many digits, zeros after them; a byte out of range refuses the line
unfoldable pub read_bytes : ℕ → List ℕ → Result Cue Answer
read_bytes digits bytes =
    cond (is_some (found bytes head_checks)) (Err Field)
    (cond (not (eqb digits (2 * (places_of (header_of bytes)).end))) (Err Length)
    (cond (is_some (found bytes (body_checks (header_of bytes)))) (Err Field)
    (Ok (cue_of (header_of bytes) bytes))))

unfoldable pub read_line : List ℕ → Result Cue Answer
read_line text =
    cond (ltb limits.digits (length text)) (Err Length)
    (cond (ltb (before is_digit text) (length text)) (Err Character)
    (cond (ragged (length text)) (Err Length)
    (cond (eqb (length text) 0) (Ok (cue_of no_header (replicate limits.bytes 0)))
    (read_bytes (length text) (padded limits.bytes 0 (bytes_of text))))))
