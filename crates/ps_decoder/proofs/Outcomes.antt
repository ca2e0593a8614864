-- An accepted call, by what the driver finds out in turn and what its stages give. Assumes nothing.
use Rattle.std.specs.Prelude.{Result, Ok}
use native.Mathlib.Omega.{arith}
use mathlib.Core.Path.{◌≡◌, refl, sym, ap, ◌∙◌}
use mathlib.Core.Bool.{Bool, true, false, ◌||◌}
use mathlib.Core.List.{List}
use borrow.Author.Tests.{eq-eqb}
use lib.Dec.{eqb}
use lib.Ieee.{Float}
use lib.ListN.{length}
use Rattle.answer.specs.declared.Answer.{Answer}
use Rattle.answer.specs.declared.Answer.TheVariants.{Done, Quiet}
use Rattle.answer.specs.Number.{number_of}
use Rattle.borders.specs.Borders.{slots_of}
use Rattle.calls.specs.Call.{Call, input_answer, read, resolved, answer_of, answer, header, layout}
use Rattle.calls.proofs.Accepts.{accepted_fits}
use Rattle.calls.proofs.Outcomes.{done_played}
use Rattle.cue.specs.declared.Header.{Header}
use Rattle.ps_data.specs.declared.Resolved.{Resolved}
use Rattle.ps_data.specs.Indices.{layout_in, read_answer, left_by}
use Rattle.ps_state.specs.declared.PsDecoder.{PsDecoder}
use Rattle.ps_state.specs.State.{core_of, playing_of}
use Rattle.ps_state.specs.Ready.{readied}
use Rattle.ps_state.specs.Shape.{Shaped}
use Rattle.ps_decoder.specs.Frame.{decoder_after, played_by}
use Rattle.ps_decoder.specs.Sound.{left_of, right_of, sounded}
use Rattle.ps_decoder.proofs.Accepted.{state_is, left_is, right_is}
use Rattle.ps_decoder.proofs.Refusals.{Left}

module _ (s : PsDecoder) (c : Call) (q : Resolved) (said : read (playing_of s) c ≡ Ok q) (heard : read_answer q.header s.lines.configured ≡ Done)
    (lent : input_answer (slots_of s.asked) c.input (length c.left) (length c.right) ≡ Done) where
  abbrev h : Header
  h = q.header

  header_is : header (playing_of s) c ≡ h
  header_is = ap (λ (x : Result Resolved Answer). (left_by (playing_of s).lines x).header) said

  answer_is : answer (playing_of s) c ≡ Done
  unfolding answer_of playing_of
  answer_is = go (h.cued || s.lines.configured) refl
    where
      go : (t : Bool) → h.cued || s.lines.configured ≡ t → answer (playing_of s) c ≡ Done
      go true b = rw (said, b) lent
      go false b =
          let quiet : read_answer h s.lines.configured ≡ Quiet = rw b in
          let one : number_of Quiet ≡ number_of Done = ap number_of (sym quiet ∙ heard) in
          absurd (omega arith)

  layout_is : layout_in s.layout h ≡ layout (playing_of s) c
  unfolding playing_of core_of
  layout_is = ap (λ (x : Header). layout_in s.layout x) (sym header_is)

  abbrev made : PsDecoder
  made = readied (layout_in s.layout h) c.edge s

  pub accepted : (r : PsDecoder) (left right : List Float) → Shaped s
      → r ≡ sounded made h (resolved (playing_of s) c).indices (resolved (playing_of s) c).positions c.input c.left c.right (resolved (playing_of s) c).lines
      → left ≡ left_of made h (resolved (playing_of s) c).indices (resolved (playing_of s) c).positions c.input c.left c.right
      → right ≡ right_of made h (resolved (playing_of s) c).indices (resolved (playing_of s) c).positions c.input c.left c.right
      → Left s c (record { answer = Done; state = r }) left right
  unfolding played_by decoder_after playing_of
  accepted r left right shaped r-is l-is r-side-is =
      let zero_is : number_of (answer (playing_of s) c) ≡ 0 = ap number_of answer_is in
      let fits = (accepted_fits (playing_of s) c zero_is).buffers in
      let same = done_played (playing_of s) c zero_is in
      let yes : eqb (number_of (answer (playing_of s) c)) 0 ≡ true = eq-eqb (number_of (answer (playing_of s) c)) 0 zero_is in (
        rw (yes, answer_is) (λ i. record { answer = Done; state = (rw layout_is at r-is ∙ state_is s shaped c h header_is fits) i }),
        (rw same (rw layout_is at l-is ∙ left_is s shaped c h header_is fits), rw same (rw layout_is at r-side-is ∙ right_is s shaped c h header_is fits)),
      )
