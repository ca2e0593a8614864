-- What the carried numbers say: the state of a decoder as the definitions have it, and the numbers that hold such a state. Assumes nothing.
use Rattle.std.specs.Prelude.{ℕ, ◌+◌, ◌*◌, ◌%◌, false, List, ◌++◌, Float, drop, replicate}
use Rattle.borders.specs.Borders.{slots_of}
use Rattle.calls.specs.Call.{Playing}
use Rattle.complex.specs.declared.Complex.{Complex}
use Rattle.layout.specs.declared.Layout.{Layout}
use Rattle.layout.specs.declared.Layout.TheVariants.{Bands20}
use Rattle.layout.specs.Numbers.{split_of}
use Rattle.lists.specs.Part.{part}
use Rattle.lists.specs.Rows.{rows}
use Rattle.planar.specs.Window.{image_of, history_of}
use Rattle.ps_data.specs.Indices.{fresh_lines}
use Rattle.ps_decorr.specs.declared.PsDecorr.{PsDecorr}
use Rattle.ps_decorr.specs.State.{fresh_decorr}
use Rattle.ps_decorr.specs.Channels.{channel_in, plain_with}
use Rattle.ps_decorr_allpass.specs.Memory.{delays_with}
use Rattle.ps_decorr_transient.specs.Gains.{detector_of, detectors_with}
use Rattle.ps_stereo.specs.State.{fresh_stereo}
use Rattle.ps_stereo.specs.Kept.{kept_in, stereo_with}
use Rattle.standard.specs.Numbers.{zero}
use Rattle.standard.specs.Core.{Core}
use Rattle.ps_state.specs.declared.PsCarried.{PsCarried}
use Rattle.ps_state.specs.declared.PsDecoder.{PsDecoder}

-- ---- a state apart: what is small in it, and its numbers of sound in one list

-- where the rings of the all-pass channels stand, behind the history, then the plain delays, the detectors and the coefficients
abbrev pub delays_at : ℕ
delays_at = 60

abbrev pub plain_at : ℕ
plain_at = delays_at + 1456

abbrev pub detectors_at : ℕ
detectors_at = plain_at + 394

abbrev pub matrices_at : ℕ
matrices_at = detectors_at + 102

abbrev pub sound_long : ℕ
sound_long = matrices_at + 272

abbrev pub decorr_in : ℕ → List Float → PsDecorr
decorr_in turn m = record { turn = turn; delays = part delays_at 1456 m; plain = part plain_at 394 m; detectors = part detectors_at 102 m }

abbrev pub decoder_in : PsCarried → List Float → PsDecoder
decoder_in s m =
    record {
      asked = s.asked;
      layout = s.layout;
      cued = s.cued;
      lines = s.lines;
      history = part 0 60 m;
      decorr = decorr_in s.turn m;
      stereo = record { matrices = part matrices_at 272 m; phases = s.phases };
    }

abbrev pub carried_of : PsDecoder → PsCarried
carried_of s = record { asked = s.asked; layout = s.layout; cued = s.cued; lines = s.lines; phases = s.stereo.phases; turn = s.decorr.turn }

unfoldable pub sound_of : PsDecoder → List Float
sound_of s = s.history ++ (s.decorr.delays ++ (s.decorr.plain ++ (s.decorr.detectors ++ s.stereo.matrices)))

pub record Lent : Type 0 where
  pub carried : PsCarried
  pub sound : List Float

abbrev pub lent : PsCarried → List Float → Lent
lent s m = record { carried = s; sound = m }

abbrev pub apart_of : PsDecoder → Lent
apart_of s = lent (carried_of s) (sound_of s)

-- every delay silent, every detector calm, no coefficients, no rows
abbrev pub fresh_decoder : ℕ → PsDecoder
fresh_decoder asked =
    record {
      asked = asked;
      layout = Bands20;
      cued = false;
      lines = fresh_lines;
      history = replicate 60 zero;
      decorr = fresh_decorr;
      stereo = fresh_stereo;
    }

-- ---- the state that the numbers hold

unfoldable pub core_of : PsDecoder → Core
core_of s =
    record {
      layout = s.layout;
      cued = s.cued;
      channel = channel_in s.layout s.decorr.turn s.decorr.delays s.decorr.plain;
      detector = detector_of s.decorr.detectors;
      kept = kept_in s.stereo.matrices s.stereo.phases;
    }

unfoldable pub playing_of : PsDecoder → Playing
playing_of s =
    record {
      slots = slots_of s.asked;
      lines = s.lines;
      past = λ p. history_of 6 6 (part (12 * p) 12 s.history);
      core = core_of s;
    }

-- ---- the numbers that hold a state; what the layout lacks stays as it was

unfoldable pub history_with : Layout → (ℕ → List Complex) → List Float → List Float
history_with l past old = rows (λ p. image_of 6 (past p)) (split_of l) ++ drop (12 * split_of l) old

-- the slots so far, after a frame more
abbrev pub turn_after : PsDecoder → ℕ → ℕ
turn_after old slots = (old.decorr.turn + slots) % 420

unfoldable pub stored : PsDecoder → Playing → PsDecoder
stored old s =
    let l = s.core.layout in
    let turn = turn_after old s.slots in
    record {
      asked = old.asked;
      layout = l;
      cued = s.core.cued;
      lines = s.lines;
      history = history_with l s.past old.history;
      decorr =
          record {
            turn = turn;
            delays = delays_with l turn s.core.channel old.decorr.delays;
            plain = plain_with l turn s.core.channel;
            detectors = detectors_with l s.core.detector old.decorr.detectors;
          };
      stereo = stereo_with l s.core.kept old.stereo;
    }
