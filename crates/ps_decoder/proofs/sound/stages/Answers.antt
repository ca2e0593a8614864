-- `ps_decoder::stages` meets its contract: the stages after the coefficients, one after the other, each on its part of the lent sound. Assumes nothing.
use native.Mathlib.Omega.{arith}
use borrow.Author.Tests.{le-leb}
use borrow.Rule.Slice.PartMut.{same_len_mid}
use mathlib.Core.Bool.{Bool, true, cond}
use mathlib.Core.List.{List}
use mathlib.Core.Path.{◌≡◌, ap, ◌∙◌}
use Prim.Native.Nat.{◌+◌, ◌*◌}
use lib.Dec.{leb}
use lib.Ieee.{Float}
use lib.ListN.{length}
use Rattle.answer.specs.declared.Answer.TheVariants.{Done, Buffers}
use Rattle.borders.specs.Borders.{slots_of}
use Rattle.lists.specs.Part.{part, put}
use Rattle.lists.proofs.Parts.{part_length}
use Rattle.ps_state.specs.State.{delays_at, detectors_at}
use Rattle.ps_decoder.proofs.Assembled.{blank, blank_long, Given, staged}
use Rattle.ps_decoder.proofs.Slots.{analysis_room}
use Rattle.ps_decoder.proofs.sound.stages.Goals as goal

-- the input is long enough, and so are the lists, so that it is never refused here
pub returns-in_default : goal.returns-in_default
returns-in_default c =
    let a = c.args in
    let there : leb (128 * (slots_of a.timing.slots + 6)) (length a.input.now) ≡ true = rw c.requires.0 (le-leb (128 * (a.timing.slots + 6)) (length a.input.now) c.requires.1) in
    let room = analysis_room a.carried.layout (part 0 60 a.sound.now) a.input.now (blank 2048) (slots_of a.timing.slots) there
    (part_length 0 60 a.sound.now (omega arith)) (blank_long 2048) in
    let done : c.analyse-analysed.result ≡ Done = c.analyse-analysed.ensures.answer ∙ ap (λ (t : Bool). cond t Done Buffers) room in
    absurd (c.in_default.not-Done done)

-- what each stage leaves of the lent sound has the sound's length
passed_long : (sound history detectors delays : List Float) → length history ≡ length (part 0 60 sound)
    → length detectors ≡ length (part detectors_at 102 (put 0 60 sound history))
    → length delays ≡ length (part delays_at 1456 (put detectors_at 102 (put 0 60 sound history) detectors))
    → length (put delays_at 1456 (put detectors_at 102 (put 0 60 sound history) detectors) delays) ≡ length sound
passed_long sound history detectors delays h d e =
    same_len_mid delays_at 1456 (put detectors_at 102 (put 0 60 sound history) detectors) delays e
    ∙ same_len_mid detectors_at 102 (put 0 60 sound history) detectors d
    ∙ same_len_mid 0 60 sound history h

pub slice_bounds-delay_channels-end-2 : goal.slice_bounds-delay_channels-end-2
slice_bounds-delay_channels-end-2 c =
    omega (
      arith,
      passed_long c.args.sound.now c.analyse-analysed.new.history c.duck.new.detectors c.allpass_channels.new.delays
          c.analyse-analysed.auto.history c.duck.auto.detectors c.allpass_channels.auto.delays,
    )

pub shape_of-left : goal.shape_of-left
shape_of-left c = c.delay_channels.auto.left ∙ c.allpass_channels.auto.left

pub shape_of-right : goal.shape_of-right
shape_of-right c = c.delay_channels.auto.right ∙ c.allpass_channels.auto.right

pub returns : goal.returns
returns c =
    let history : List Float = c.analyse-analysed.new.history in
    let detectors : List Float = c.duck.new.detectors in
    let delays : List Float = c.allpass_channels.new.delays in
    let a = c.args in
    let low = rw c.rotations.ensures at c.allpass_channels.ensures in
    let high = c.delay_channels.ensures in
    let plain = c.delay_channels.new.plain in
    let given : Given a.carried a.timing a.rows.now a.input.now a.sound.now a.left.now a.right.now history detectors delays plain _ _ _ _ _ _
    = record {
      long = omega arith;
      clamped = c.requires.0;
      history_kept = c.analyse-analysed.auto.history;
      detectors_kept = c.duck.auto.detectors;
      delays_kept = c.allpass_channels.auto.delays;
      plain_kept = c.delay_channels.auto.plain;
      history_is = c.analyse-analysed.ensures.history;
      samples_are = c.analyse-analysed.ensures.samples;
      detectors_are = c.duck.ensures.detectors;
      gains_are = c.duck.ensures.gains;
      left_low = low.left;
      right_low = low.right;
      delays_are = low.delays;
      left_is = high.left;
      right_is = high.right;
      plain_is = high.plain;
    } in
    staged a.carried a.timing a.rows.now a.input.now a.sound.now a.left.now a.right.now history detectors delays plain given
