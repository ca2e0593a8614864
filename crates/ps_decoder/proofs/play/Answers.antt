-- `ps_decoder::play` meets its contract: the stages from the state made ready. Assumes nothing.
use mathlib.Core.List.{List}
use native.Mathlib.Omega.{arith}
use mathlib.Core.Path.{◌≡◌, ap, subst, ◌∙◌}
use lib.Ieee.{Float}
use Rattle.cue.specs.declared.Header.{Header}
use Rattle.layout.specs.declared.Layout.{Layout}
use Rattle.ps_data.specs.declared.Resolved.{Resolved}
use Rattle.ps_data.specs.Indices.{layout_in}
use Rattle.ps_state.specs.declared.PsDecoder.{PsDecoder}
use Prim.Native.Nat.{ℕ}
use lib.ListN.{length}
use Rattle.ps_state.specs.declared.PsCarried.{PsCarried}
use Rattle.ps_state.specs.State.{Lent, lent, decoder_in, sound_long}
use Rattle.ps_state.specs.Ready.{readied, ready_in}
use Rattle.ps_state.proofs.Readied.{ready_decoder}
use Rattle.ps_decoder.specs.Sound.{Sounded}
use Rattle.ps_decoder.proofs.Accepted.{readied_asked}
use Rattle.ps_decoder.proofs.play.Goals as goal

sounded_from : {s t after : PsDecoder} {h : Header} {r : Resolved} {input left right new-left new-right : List Float} → s ≡ t
    → Sounded s h r input left right after new-left new-right → Sounded t h r input left right after new-left new-right
sounded_from {s} {t} {after} {h} {r} {input} {left} {right} {new-left} {new-right} is given =
    subst (λ (d : PsDecoder). Sounded d h r input left right after new-left new-right) is given

-- the state made ready
made_ready : (k : PsCarried) (h : Header) (edge : ℕ) (sound : List Float) → length sound ≡ sound_long → (after : PsCarried) (new_sound : List Float) (l : Layout)
    → l ≡ layout_in k.layout h → lent after new_sound ≡ ready_in l edge k sound → decoder_in after new_sound ≡ readied (layout_in k.layout h) edge (decoder_in k sound)
made_ready k h edge sound long after new_sound l is made =
    ap (λ (t : Lent). decoder_in t.carried t.sound) made
    ∙ ready_decoder l edge k sound long
    ∙ ap (λ (m : Layout). readied m edge (decoder_in k sound)) is

-- it has the slots that it had
pub sound-requires : goal.sound-requires
sound-requires c =
    let a = c.args in
    let made = made_ready a.carried a.resolved.header a.edge a.sound.now (omega arith) c.ready-ready.result c.ready-ready.new.sound c.layout_in-layout.result c.layout_in-layout.ensures c.ready-ready.ensures in
    let asked = ap (λ (d : PsDecoder). d.asked) made ∙ readied_asked _ _ _ in
    rw asked c.requires

pub returns : goal.returns
returns c =
    let a = c.args in
    sounded_from (made_ready a.carried a.resolved.header a.edge a.sound.now (omega arith) c.ready-ready.result c.ready-ready.new.sound c.layout_in-layout.result c.layout_in-layout.ensures c.ready-ready.ensures) c.sound.ensures
