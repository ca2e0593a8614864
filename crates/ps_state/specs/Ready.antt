-- Table 8.47 and Annex 8.A.3: the carried state made ready for a frame of a layout. Assumes nothing.
use Rattle.std.specs.Prelude.{ℕ, Bool, cond, List, eqb, Float, length, replicate}
use Rattle.layout.specs.declared.Layout.{Layout}
use Rattle.layout.specs.Numbers.{reset_from_of}
use Rattle.ps_decorr.specs.State.{fresh_decorr, reset_from}
use Rattle.ps_stereo.specs.State.{switched_to}
use Rattle.standard.specs.Numbers.{zero}
use Rattle.standard.specs.Core.{same_layout}
use Rattle.ps_state.specs.declared.PsCarried.{PsCarried}
use Rattle.ps_state.specs.declared.PsDecoder.{PsDecoder}
use Rattle.ps_state.specs.State.{Lent, lent, apart_of, decoder_in, sound_long}

-- a change of layout resets the hybrid history, the de-correlator with its detectors and the phase history, and remaps the held coefficients
unfoldable pub switched_from : Layout → PsDecoder → PsDecoder
switched_from l s =
    cond (same_layout s.layout l) s
    (record {
      asked = s.asked;
      layout = l;
      cued = s.cued;
      lines = s.lines;
      history = replicate 60 zero;
      decorr = fresh_decorr;
      stereo = switched_to l s.stereo;
    })

-- the whole bank if the previous accepted frame's line was empty, also before the first; else from the spectrum edge on
abbrev pub cleared_place : Layout → ℕ → Bool → ℕ
cleared_place l edge cued = cond cued (reset_from_of l edge) 0

unfoldable pub readied : Layout → ℕ → PsDecoder → PsDecoder
readied l edge s =
    let t = switched_from l s in
    record {
      asked = t.asked;
      layout = t.layout;
      cued = t.cued;
      lines = t.lines;
      history = t.history;
      decorr = reset_from l (cleared_place l edge t.cued) t.decorr;
      stereo = t.stereo;
    }

-- the same of a state apart; nothing changes where its sound is of another length
unfoldable pub ready_in : Layout → ℕ → PsCarried → List Float → Lent
ready_in l edge s m = cond (eqb (length m) sound_long) (apart_of (readied l edge (decoder_in s m))) (lent s m)
