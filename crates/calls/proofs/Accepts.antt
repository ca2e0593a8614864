-- A call that is accepted was lent buffers and samples that fit: a line is never refused with Done, so acceptance comes from the input. Assumes nothing.
use Rattle.std.specs.Prelude.{Result, Ok, Err}
use Prim.Native.Nat.{ℕ, ◌+◌, ◌*◌, ◌%◌, ◌≤◌}
use native.Mathlib.Omega.{arith}
use mathlib.Core.Path.{◌≡◌, refl, sym, ap, ◌∙◌}
use mathlib.Core.Logic.{◌≢◌}
use mathlib.Core.Bool.{Bool, true, false, cond, ◌&&◌, ◌||◌}
use mathlib.Core.List.{List}
use borrow.Author.Tests.{leb-true}
use lib.Dec.{eqb, leb}
use lib.Ieee.{Float}
use lib.ListN.{length}
use Rattle.answer.specs.declared.Answer.{Answer}
use Rattle.answer.specs.declared.Answer.TheVariants.{Done, Quiet, Buffers, Sample}
use Rattle.answer.specs.Number.{number_of}
use Rattle.answer.proofs.Refused.{zero_done}
use Rattle.ps_data.specs.declared.Resolved.{Resolved}
use Rattle.cue.proofs.Refusals as cue
use Rattle.ps_data.proofs.Laws.{refusal_kept}
use Rattle.calls.specs.Call.{Call, Playing, buffers_fit, samples_fit, input_answer, read, answer_of, answer}

-- the buffers and the samples of a call fit
pub record Fitting (s : Playing) (c : Call) : Type 0 where
  pub buffers : buffers_fit s.slots (length c.input) (length c.left) (length c.right) ≡ true
  pub samples : samples_fit s.slots c.input ≡ true

module _ (s : Playing) (c : Call) where
  pub refused_not_done : (a : Answer) → read s c ≡ Err a → number_of a ≢ 0
  refused_not_done a e = cue.refused_not_done c.line a (refusal_kept s.lines c.line a e)

  pub accepted_fits : number_of (answer s c) ≡ 0 → Fitting s c
  unfolding answer_of input_answer
  accepted_fits accepted = by (read s c) refl accepted
    where
      input : (a b : Bool) → buffers_fit s.slots (length c.input) (length c.left) (length c.right) ≡ a → samples_fit s.slots c.input ≡ b
          → cond a (cond b Done Sample) Buffers ≡ Done → Fitting s c
      input true true p q e = record { buffers = p; samples = q }
      input true false p q e = let six : number_of Sample ≡ number_of Done = ap number_of e in absurd (omega arith)
      input false b p q e = let five : number_of Buffers ≡ number_of Done = ap number_of e in absurd (omega arith)

      heard : (t : Bool) → number_of (cond t (input_answer s.slots c.input (length c.left) (length c.right)) Quiet) ≡ 0 → Fitting s c
      heard true z = input _ _ refl refl (zero_done (input_answer s.slots c.input (length c.left) (length c.right)) z)
      heard false z = absurd (omega arith)

      by : (line : Result Resolved Answer) → read s c ≡ line → number_of (answer_of s c line) ≡ 0 → Fitting s c
      by (Ok r) is z = heard (r.header.cued || s.lines.configured) z
      by (Err a) is z = absurd (refused_not_done a is z)

-- an input that is taken has the rows that a frame reads
pub taken_room : (slots : ℕ) (input : List Float) (left right : ℕ) → input_answer slots input left right ≡ Done → 128 * (slots + 6) ≤ length input
unfolding input_answer buffers_fit
taken_room slots input left right taken =
    go (eqb (length input % 128) 0) (leb (128 * (slots + 6)) (length input)) (eqb left (128 * slots) && eqb right (128 * slots)) refl taken
  where
    refused : {A : Type 0} → Buffers ≡ Done → A
    refused e = let five : number_of Buffers ≡ number_of Done = ap number_of e in absurd (omega arith)

    go : (rows room outputs : Bool) → leb (128 * (slots + 6)) (length input) ≡ room
        → cond (rows && (room && outputs)) (cond (samples_fit slots input) Done Sample) Buffers ≡ Done → 128 * (slots + 6) ≤ length input
    go true true outputs is e = leb-true (128 * (slots + 6)) (length input) is
    go true false outputs is e = refused e
    go false room outputs is e = refused e
