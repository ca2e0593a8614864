-- `ps_decoder::lent_frame` meets its contract: each return is the case of the call that the sound's length, the line, quiet and the input pick. Assumes
-- nothing.
use Rattle.std.specs.Prelude.{Ok}
use native.Mathlib.Omega.{arith}
use Rattle.std.proofs.Common.{◌<◌}
use mathlib.Core.Path.{◌≡◌, sym, ap, ◌∙◌}
use mathlib.Core.Logic.{◌≢◌}
use Rattle.answer.specs.declared.Answer.{Answer}
use Rattle.answer.specs.declared.Answer.TheVariants.{Done}
use Rattle.answer.specs.Number.{number_of}
use Rattle.answer.proofs.Refused.{zero_done}
use Rattle.calls.specs.Call.{Call, read, resolved}
use Rattle.calls.proofs.Accepts.{taken_room, refused_not_done}
use Rattle.cue.specs.Line as cue
use Rattle.ps_data.specs.declared.Resolved.{Resolved}
use Rattle.ps_data.specs.Indices.{read_answer, left_by}
use Rattle.ps_state.specs.declared.PsDecoder.{PsDecoder}
use Rattle.ps_state.specs.State.{decoder_in, playing_of}
use Rattle.ps_state.specs.Shape.{Shaped}
use Rattle.ps_decoder.specs.Frame.{call_of}
use Rattle.ps_decoder.proofs.Lent.{shaped_in, other_length, lent_told, lent_refused}
use Rattle.ps_decoder.proofs.Outcomes.{accepted}
use Rattle.ps_decoder.proofs.Refusals.{line_refused, quiet, input_refused}
use Rattle.ps_decoder.proofs.lent_frame.Goals as goal

-- an answer that is not Done is a number above 0
not_zero : (a : Answer) → a ≢ Done → 0 < number_of a
not_zero a other =
    let nonzero : number_of a ≢ 0 = λ e. other (zero_done a e) in
    omega (arith, nonzero)

-- sound of another length
pub returns-in_default-clause-told : goal.returns-in_default-clause-told
returns-in_default-clause-told c =
    let call_by : Call = call_of c.args.line.now c.args.input.now c.args.edge c.args.left.now c.args.right.now in
    other_length c.args.carried c.args.sound.now call_by c.in_default.ensures.cases

-- a line that is refused
pub returns-in_default-read-clause-told : goal.returns-in_default-read-clause-told
unfolding playing_of
returns-in_default-read-clause-told c =
    let call_by : Call = call_of c.args.line.now c.args.input.now c.args.edge c.args.left.now c.args.right.now in
    let state : PsDecoder = decoder_in c.args.carried c.args.sound.now in
    let whole = c.in-Some.ensures.cases in
    let refused = c.in_default-read.is in
    let answered = c.answer_of.ensures ∙ ap cue.answer_of refused in
    rw (answered, whole.same) (lent_refused c.args.carried c.args.sound.now call_by _ whole.long (line_refused state call_by _ (sym c.resolve-read.ensures ∙ refused)))

pub returns-in_default-read-clause-refused : goal.returns-in_default-read-clause-refused
unfolding playing_of
returns-in_default-read-clause-refused c =
    let call_by : Call = call_of c.args.line.now c.args.input.now c.args.edge c.args.left.now c.args.right.now in
    let state : PsDecoder = decoder_in c.args.carried c.args.sound.now in
    let refused = c.in_default-read.is in
    let answered = c.answer_of.ensures ∙ ap cue.answer_of refused in
    let other = refused_not_done (playing_of state) call_by _ (sym c.resolve-read.ensures ∙ refused) in
    rw answered (omega (arith, other))

-- an empty line before any configuration
pub returns-in_default-of_line-clause-told : goal.returns-in_default-of_line-clause-told
unfolding playing_of
returns-in_default-of_line-clause-told c =
    let call_by : Call = call_of c.args.line.now c.args.input.now c.args.edge c.args.left.now c.args.right.now in
    let state : PsDecoder = decoder_in c.args.carried c.args.sound.now in
    let whole = c.in-Some.ensures.cases in
    let line : Resolved = c.in-Ok.resolved in
    let says : read (playing_of state) call_by ≡ Ok line = sym c.resolve-read.ensures ∙ c.in-Ok.is in
    let quieted = c.read_answer-of_line in
    rw whole.same (lent_refused c.args.carried c.args.sound.now call_by quieted.result whole.long
    (quiet state call_by line quieted.result says quieted.ensures (λ e. c.in_default-of_line.not-Done (zero_done quieted.result e))))

pub returns-in_default-of_line-clause-refused : goal.returns-in_default-of_line-clause-refused
returns-in_default-of_line-clause-refused c = not_zero c.read_answer-of_line.result c.in_default-of_line.not-Done

-- an input that is refused
pub returns-in_default-of_input-clause-told : goal.returns-in_default-of_input-clause-told
unfolding playing_of
returns-in_default-of_input-clause-told c =
    let call_by : Call = call_of c.args.line.now c.args.input.now c.args.edge c.args.left.now c.args.right.now in
    let state : PsDecoder = decoder_in c.args.carried c.args.sound.now in
    let whole = c.in-Some.ensures.cases in
    let line : Resolved = c.in-Ok.resolved in
    let says : read (playing_of state) call_by ≡ Ok line = sym c.resolve-read.ensures ∙ c.in-Ok.is in
    let heard : read_answer line.header state.lines.configured ≡ Done = sym c.read_answer-of_line.ensures ∙ c.in-Done.is in
    let answered = c.input_answer-of_input in
    rw whole.same (lent_refused c.args.carried c.args.sound.now call_by answered.result whole.long
    (input_refused state call_by line answered.result says heard answered.ensures (λ e. c.in_default-of_input.not-Done (zero_done answered.result e))))

pub returns-in_default-of_input-clause-refused : goal.returns-in_default-of_input-clause-refused
returns-in_default-of_input-clause-refused c = not_zero c.input_answer-of_input.result c.in_default-of_input.not-Done

-- and one whose input is taken
pub play-next-requires : goal.play-next-requires
play-next-requires c = taken_room _ _ _ _ (sym c.input_answer-of_input.ensures ∙ c.in-Done-of_input.is)

pub returns-clause-told : goal.returns-clause-told
unfolding playing_of
returns-clause-told c =
    let call_by : Call = call_of c.args.line.now c.args.input.now c.args.edge c.args.left.now c.args.right.now in
    let state : PsDecoder = decoder_in c.args.carried c.args.sound.now in
    let call : Call = call_by in
    let whole = c.in-Some.ensures.cases in
    let shaped : Shaped state = shaped_in c.args.carried c.args.sound.now whole.long c.well_formed.0.1.1.1.1.1.1.0.1.0.1 in
    let line : Resolved = c.in-Ok.resolved in
    let says : read (playing_of state) call ≡ Ok line = sym c.resolve-read.ensures ∙ c.in-Ok.is in
    let heard : read_answer line.header state.lines.configured ≡ Done = sym c.read_answer-of_line.ensures ∙ c.in-Done.is in
    let taken = sym c.input_answer-of_input.ensures ∙ c.in-Done-of_input.is in
    let sounded = rw whole.same at c.play-next.ensures in
    let resolved_is : line ≡ resolved (playing_of state) call = ap (left_by state.lines) (sym says) in
    lent_told c.args.carried c.args.sound.now call _ _ _ _ whole.long (omega arith)
    (accepted state call line says heard taken _ _ _ shaped
    (rw (← resolved_is) sounded.state) (rw (← resolved_is) sounded.left_rows) (rw (← resolved_is) sounded.right_rows))
