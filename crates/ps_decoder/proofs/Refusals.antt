-- Calls that are not accepted, by what the driver finds out in turn: the line, quiet, the input. Assumes nothing.
use Rattle.std.specs.Prelude.{Ok, Err}
use native.Mathlib.Omega.{arith}
use mathlib.Core.Path.{◌≡◌, refl, sym, ap, ◌∙◌}
use mathlib.Core.Logic.{◌≢◌}
use mathlib.Core.Bool.{Bool, true, false, ◌||◌}
use mathlib.Core.List.{List}
use borrow.Author.Tests.{ne_eqb}
use lib.Dec.{eqb}
use lib.Ieee.{Float}
use lib.ListN.{length}
use Rattle.answer.specs.declared.Answer.{Answer}
use Rattle.answer.specs.declared.Answer.TheVariants.{Done, Quiet}
use Rattle.answer.specs.Number.{number_of}
use Rattle.borders.specs.Borders.{slots_of}
use Rattle.calls.specs.Call.{Call, input_answer, read, answer_of, answer, played}
use Rattle.calls.proofs.Accepts.{refused_not_done}
use Rattle.calls.proofs.Outcomes.{refused_unchanged}
use Rattle.ps_data.specs.declared.Resolved.{Resolved}
use Rattle.ps_data.specs.Indices.{read_answer}
use Rattle.ps_state.specs.declared.PsDecoder.{PsDecoder}
use Rattle.ps_state.specs.State.{playing_of}
use Rattle.ps_decoder.specs.Frame.{Played, decoder_after, played_by}

-- what the driver returns, and what stands in the outputs
abbrev pub Left : PsDecoder → Call → Played → List Float → List Float → Type 0
Left s c r left right = (r ≡ played_by s c) × ((left ≡ (played (playing_of s) c).left) × (right ≡ (played (playing_of s) c).right))

pub unchanged : (s : PsDecoder) (c : Call) (a : Answer) → answer (playing_of s) c ≡ a → number_of a ≢ 0 → Left s c (record { answer = a; state = s }) c.left c.right
unfolding played_by decoder_after
unchanged s c a e ne =
    let ne-too : number_of (answer (playing_of s) c) ≢ 0 = λ z. ne (ap number_of (sym e) ∙ z) in
    let same = refused_unchanged (playing_of s) c ne-too in
    let kept : eqb (number_of (answer (playing_of s) c)) 0 ≡ false = ne_eqb (number_of (answer (playing_of s) c)) 0 ne-too in
    (rw (kept, e), (rw same, rw same))

-- a line that is refused
pub line_refused : (s : PsDecoder) (c : Call) (a : Answer) → read (playing_of s) c ≡ Err a → Left s c (record { answer = a; state = s }) c.left c.right
unfolding answer_of
line_refused s c a e = unchanged s c a (rw e) (refused_not_done (playing_of s) c a e)

-- an empty line before any configuration
pub quiet : (s : PsDecoder) (c : Call) (q : Resolved) (a : Answer) → read (playing_of s) c ≡ Ok q → a ≡ read_answer q.header s.lines.configured → number_of a ≢ 0
    → Left s c (record { answer = a; state = s }) c.left c.right
unfolding answer_of playing_of
quiet s c q a e is ne = go (q.header.cued || s.lines.configured) refl
  where
    go : (t : Bool) → q.header.cued || s.lines.configured ≡ t → Left s c (record { answer = a; state = s }) c.left c.right
    go true b =
        let said : read_answer q.header s.lines.configured ≡ Done = rw b in
        absurd (ne (ap number_of (is ∙ said)))
    go false b =
        let said : read_answer q.header s.lines.configured ≡ Quiet = rw b in
        unchanged s c a (rw (e, b) (sym (is ∙ said))) ne

-- an input that is refused
pub input_refused : (s : PsDecoder) (c : Call) (q : Resolved) (a : Answer) → read (playing_of s) c ≡ Ok q → read_answer q.header s.lines.configured ≡ Done
    → a ≡ input_answer (slots_of s.asked) c.input (length c.left) (length c.right) → number_of a ≢ 0
    → Left s c (record { answer = a; state = s }) c.left c.right
unfolding answer_of playing_of
input_refused s c q a e done is ne = go (q.header.cued || s.lines.configured) refl
  where
    go : (t : Bool) → q.header.cued || s.lines.configured ≡ t → Left s c (record { answer = a; state = s }) c.left c.right
    go true b = unchanged s c a (rw (e, b) (sym is)) ne
    go false b =
        let said : read_answer q.header s.lines.configured ≡ Quiet = rw b in
        let one : number_of Quiet ≡ number_of Done = ap number_of (sym said ∙ done) in
        absurd (omega arith)
