-- The state made ready over flat numbers is near the state that the definitions make ready, and keeps its lengths. Assumes nothing.
use mathlib.Core.Path.{◌≡◌, refl, ◌∙◌}
use mathlib.Core.Bool.{Bool, true, false, cond, ◌&&◌}
use mathlib.Core.List.{List, []}
use Prim.Native.Nat.{ℕ, ◌*◌, ◌<◌}
use native.Mathlib.Omega.{arith}
use lib.Dec.{eqb, leb, ltb}
use lib.Ieee.{Float}
use lib.IntN.{pos}
use lib.ListN.{length, replicate, length-replicate}
use Rattle.calls.specs.Near.{Alike, NearCore}
use Rattle.calls.proofs.Ready.{layout_is}
use Rattle.layout.specs.declared.Layout.{Layout}
use Rattle.layout.specs.Numbers.{all_pass_of, groups_of}
use Rattle.layout.proofs.Bounds.{bounds}
use Rattle.lists.specs.Part.{part}
use Rattle.planar.specs.Window.{history_of}
use Rattle.ps_decorr.specs.State.{fresh_decorr, plain_owner, delays_reset, plain_reset, reset_from}
use Rattle.ps_decorr_allpass.specs.Memory.{owner_of, silenced_from}
use Rattle.ps_decorr_allpass.proofs.Silenced.{silenced_length}
use Rattle.ps_stereo.specs.State.{switched_to}
use Rattle.standard.specs.Core.{Core, Head, same_layout, remapped, switched, clear_from, cleared, ready}
use Rattle.standard.specs.Channel.{silent}
use Rattle.standard.specs.Detector.{calm}
use Rattle.standard.specs.Numbers.{zero}
use Rattle.ps_state.specs.declared.PsCarried.{PsCarried}
use Rattle.ps_state.specs.declared.PsDecoder.{PsDecoder}
use Rattle.ps_state.specs.State.{sound_long, decoder_in, core_of}
use Rattle.ps_state.specs.Ready.{switched_from, cleared_place, readied, ready_in}
use Rattle.ps_state.specs.Shape.{Shaped}
use Rattle.ps_state.proofs.Lent.{Heard, heard, heard_in, decoder_apart}
use Rattle.ps_state.proofs.Images.{part_repeated, held_silent}
use Rattle.ps_state.proofs.Stored.{fresh_detector}
use Rattle.ps_state.proofs.Channels.{Sized, fresh_sized, near_cleared, near_renewed}
use Rattle.ps_state.proofs.Remapped.{remapped_length, remapped_kept}

-- ---- in two steps: a change of layout, then the reset

-- the state after a real change of layout, over numbers and in the definitions
abbrev pub renewed : Layout → PsDecoder → PsDecoder
renewed l s =
    record {
      asked = s.asked;
      layout = l;
      cued = s.cued;
      lines = s.lines;
      history = replicate 60 zero;
      decorr = fresh_decorr;
      stereo = switched_to l s.stereo;
    }

abbrev renewed_core : Layout → Core → Core
renewed_core l s = record { layout = l; cued = s.cued; channel = λ k. silent; detector = λ b. calm; kept = remapped l s.kept }

-- the reset alone
abbrev pub reset_in : Layout → ℕ → PsDecoder → PsDecoder
reset_in l edge t =
    record {
      asked = t.asked;
      layout = t.layout;
      cued = t.cued;
      lines = t.lines;
      history = t.history;
      decorr = reset_from l (cleared_place l edge t.cued) t.decorr;
      stereo = t.stereo;
    }

abbrev reset_core : Head → Core → Core
reset_core head t =
    record { layout = t.layout; cued = t.cued; channel = cleared (clear_from head t.cued) t.channel; detector = t.detector; kept = t.kept }

-- each state made ready is one of the two after the reset
module _ (s : PsDecoder) (l : Layout) (edge : ℕ) where
  readied_same : same_layout s.layout l ≡ true → readied l edge s ≡ reset_in l edge s
  unfolding readied switched_from
  readied_same e = rw e

  readied_other : same_layout s.layout l ≡ false → readied l edge s ≡ reset_in l edge (renewed l s)
  unfolding readied switched_from
  readied_other e = rw e

module _ (s : Core) (head : Head) where
  ready_same : same_layout s.layout head.layout ≡ true → ready head s ≡ reset_core head s
  unfolding ready switched
  ready_same e = rw e

  ready_other : same_layout s.layout head.layout ≡ false → ready head s ≡ reset_core head (renewed_core head.layout s)
  unfolding ready switched
  ready_other e = rw e

-- ---- near, for each of the two

module _ (s : PsDecoder) (head : Head) (shape : Shaped s) where
  abbrev l : Layout
  l = head.layout

  sized : Sized s.decorr
  sized = record { delays = shape.delays; plain = shape.plain }

  near_kept : s.layout ≡ l → NearCore (core_of (reset_in l head.edge s)) (reset_core head (core_of s))
  unfolding core_of clear_from reset_from
  near_kept e =
      record {
        layout = refl;
        cued = refl;
        channel = λ k u. rw e (near_cleared l (cleared_place l head.edge s.cued) k (rw e at u) s.decorr sized);
        detector = λ b u. refl;
        kept = λ b u. refl;
      }

  near_changed : NearCore (core_of (reset_in l head.edge (renewed l s))) (reset_core head (renewed_core l (core_of s)))
  unfolding core_of clear_from reset_from
  near_changed =
      record {
        layout = refl;
        cued = refl;
        channel = λ k u. near_renewed l (cleared_place l head.edge s.cued) k u;
        detector = λ b u. fresh_detector b (omega (arith, (bounds l).bands));
        kept = λ b u. remapped_kept l s.stereo b (omega (arith, (bounds l).bands));
      }

pub near_readied : (s : PsDecoder) (head : Head) → Shaped s → NearCore (core_of (readied head.layout head.edge s)) (ready head (core_of s))
unfolding core_of
near_readied s head shape = go (same_layout s.layout head.layout) refl
  where
    go : (same : Bool) → same_layout s.layout head.layout ≡ same → NearCore (core_of (readied head.layout head.edge s)) (ready head (core_of s))
    go true e = rw (readied_same s head.layout head.edge e, ready_same (core_of s) head e) (near_kept s head shape (layout_is s.layout head.layout e))
    go false e = rw (readied_other s head.layout head.edge e, ready_other (core_of s) head e) (near_changed s head shape)

-- ---- the lengths

either_length : (owner : ℕ → ℕ) (place : ℕ) (xs : List Float) (t : Bool) → length (cond t (silenced_from owner place xs) xs) ≡ length xs
either_length owner place xs true = silenced_length owner place xs
either_length owner place xs false = refl

pub delays_reset_length : (l : Layout) (place : ℕ) (delays : List Float) → length (delays_reset l place delays) ≡ length delays
delays_reset_length l place delays = either_length owner_of place delays (leb (112 * groups_of l) (length delays) && ltb place (all_pass_of l))

pub plain_reset_length : (l : Layout) (place : ℕ) (plain : List Float) → length (plain_reset l place plain) ≡ length plain
plain_reset_length l place plain = either_length (plain_owner l) place plain (eqb (length plain) 394)

reset_heard : (l : Layout) (edge : ℕ) (t : PsDecoder) → Heard t → Heard (reset_in l edge t)
unfolding reset_from
reset_heard l edge t shape =
    let place = cleared_place l edge t.cued in
    record {
      history = shape.history;
      delays = delays_reset_length l place t.decorr.delays ∙ shape.delays;
      plain = plain_reset_length l place t.decorr.plain ∙ shape.plain;
      detectors = shape.detectors;
      matrices = shape.matrices;
    }

renewed_heard : (l : Layout) (s : PsDecoder) → Heard (renewed l s)
unfolding switched_to
renewed_heard l s =
    record {
      history = length-replicate 60 zero;
      delays = fresh_sized.delays;
      plain = fresh_sized.plain;
      detectors = length-replicate 102 zero;
      matrices = remapped_length l s.stereo.matrices;
    }

heard_readied : (s : PsDecoder) (l : Layout) (edge : ℕ) → Heard s → Heard (readied l edge s)
heard_readied s l edge shape = go (same_layout s.layout l) refl
  where
    go : (same : Bool) → same_layout s.layout l ≡ same → Heard (readied l edge s)
    go true e = rw (readied_same s l edge e) (reset_heard l edge s shape)
    go false e = rw (readied_other s l edge e) (reset_heard l edge (renewed l s) (renewed_heard l s))

pub shaped_readied : (s : PsDecoder) (l : Layout) (edge : ℕ) → Shaped s → Shaped (readied l edge s)
unfolding switched_to
shaped_readied s l edge shape =
    let kept = heard_readied s l edge (heard shape) in
    record {
      history = kept.history;
      delays = kept.delays;
      plain = kept.plain;
      detectors = kept.detectors;
      matrices = kept.matrices;
      phases = go (same_layout s.layout l) refl;
    }
  where
    go : (same : Bool) → same_layout s.layout l ≡ same → length (readied l edge s).stereo.phases ≡ 136
    go true e = rw (readied_same s l edge e) shape.phases
    go false e = rw (readied_other s l edge e) (length-replicate 136 (pos 0))

-- ---- a state apart, of the right length, made ready

pub ready_decoder : (l : Layout) (edge : ℕ) (s : PsCarried) (m : List Float) → length m ≡ sound_long
    → decoder_in (ready_in l edge s m).carried (ready_in l edge s m).sound ≡ readied l edge (decoder_in s m)
unfolding ready_in
ready_decoder l edge s m long = rw long (decoder_apart (readied l edge (decoder_in s m)) (heard_readied (decoder_in s m) l edge (heard_in s m long)))

-- ---- the hybrid history: kept, or silent after a real change

pub readied_history : (s : PsDecoder) (l : Layout) (edge : ℕ) → Shaped s → (p : ℕ) → p < 5
    → Alike 6 (history_of 6 6 (part (12 * p) 12 (readied l edge s).history)) (cond (same_layout s.layout l) (history_of 6 6 (part (12 * p) 12 s.history)) [])
readied_history s l edge shape p u = go (same_layout s.layout l) refl
  where
    go : (same : Bool) → same_layout s.layout l ≡ same
        → Alike 6 (history_of 6 6 (part (12 * p) 12 (readied l edge s).history)) (cond (same_layout s.layout l) (history_of 6 6 (part (12 * p) 12 s.history)) [])
    go true e = rw (readied_same s l edge e, e) (λ i v. refl)
    go false e = rw (readied_other s l edge e, e) (held_silent 6 (part (12 * p) 12 (replicate 60 zero)) (part_repeated (12 * p) 12 60 zero (omega arith)))
