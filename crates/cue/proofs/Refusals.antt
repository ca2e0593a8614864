-- A line that is refused is not refused with Done, by the refusals in turn. Assumes nothing.
use Rattle.std.specs.Prelude.{Result, Ok, Err}
use Prim.Native.Nat.{ℕ, ◌*◌}
use native.Mathlib.Omega.{arith}
use mathlib.Core.Path.{◌≡◌, subst}
use mathlib.Core.Logic.{◌≢◌}
use mathlib.Core.Bool.{Bool, true, false, cond, not}
use mathlib.Core.List.{List}
use lib.Dec.{eqb, ltb}
use lib.ListN.{length}
use Rattle.answer.specs.declared.Answer.{Answer}
use Rattle.answer.specs.Number.{number_of}
use Rattle.limits.specs.Limits as limits
use Rattle.lists.specs.First.{before}
use Rattle.lists.specs.Padded.{padded}
use Rattle.cue.specs.declared.Cue.{Cue}
use Rattle.std.specs.Option.{is_some}
use Rattle.cue.specs.Checks.{found, head_checks, body_checks}
use Rattle.cue.specs.Digits.{is_digit, bytes_of, ragged}
use Rattle.cue.specs.Fields.{places_of, header_of}
use Rattle.cue.specs.Line.{read_bytes, read_line}

abbrev Sound : Result Cue Answer → Type 0
Sound (Ok q) = Unit
Sound (Err a) = number_of a ≢ 0

either : (t : Bool) (x y : Result Cue Answer) → Sound x → Sound y → Sound (cond {A = Result Cue Answer} t x y)
either true x y p q = p
either false x y p q = q

bytes_sound : (digits : ℕ) (bytes : List ℕ) → Sound (read_bytes digits bytes)
unfolding read_bytes
bytes_sound digits bytes =
    either (is_some (found bytes head_checks)) _ _ (λ e. omega arith)
    (either (not (eqb digits (2 * (places_of (header_of bytes)).end))) _ _ (λ e. omega arith)
    (either (is_some (found bytes (body_checks (header_of bytes)))) _ _ (λ e. omega arith) tt))

line_sound : (text : List ℕ) → Sound (read_line text)
unfolding read_line
line_sound text =
    either (ltb limits.digits (length text)) _ _ (λ e. omega arith)
    (either (ltb (before is_digit text) (length text)) _ _ (λ e. omega arith)
    (either (ragged (length text)) _ _ (λ e. omega arith)
    (either (eqb (length text) 0) _ _ tt (bytes_sound (length text) (padded limits.bytes 0 (bytes_of text))))))

pub refused_not_done : (text : List ℕ) (a : Answer) → read_line text ≡ Err a → number_of a ≢ 0
refused_not_done text a e = subst Sound e (line_sound text)
