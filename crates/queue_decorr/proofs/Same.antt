-- At the start, at a frame's own reset and at a change of layout the queues are those of the definitions, number for number. Assumes nothing.
use Prim.Native.Nat.{ℕ, ◌≤◌}
use native.Mathlib.Omega.{arith}
use mathlib.Core.Path.{◌≡◌, refl, sym, ap, ◌∙◌}
use mathlib.Core.Bool.{Bool, true, false, not, cond}
use Rattle.layout.specs.declared.Layout.{Layout}
use Rattle.layout.specs.declared.Layout.TheVariants.{Bands20}
use Rattle.layout.specs.Numbers.{channels_of}
use Rattle.layout.proofs.Bounds.{bounds}
use Rattle.ps_decorr_transient.specs.Gains.{detectors_with}
use Rattle.ps_state.specs.Ready.{cleared_place}
use Rattle.standard.specs.Channel.{silent}
use Rattle.standard.specs.Core as core
use Rattle.standard.specs.Core.{Core, Head, same_layout, remapped, switched, clear_from, cleared, ready}
use Rattle.standard.specs.Detector.{calm}
use Rattle.standard.proofs.Runs.{ready_layout}
use Rattle.queue_decorr.specs.declared.QueueDecorr.{QueueDecorr}
use Rattle.queue_decorr.specs.Queues.{place_of}
use Rattle.queue_decorr.specs.State.{silent_queues, fresh_queues, switched_queues, silent_from, queues_ready}
use Rattle.queue_decorr.specs.Run.{queues_of, flagged, ready_for}
use Rattle.queue_decorr.proofs.Memory.{place_most}
use Rattle.queue_decorr.proofs.Silence.{zeros, silent_from_lem, quiet_queues, calm_detectors}

-- ---- silence

-- a state whose channels are silent and whose detectors are calm
pub silent_same : (l : Layout) (s : Core) → s.layout ≡ l → s.channel ≡ (λ k. silent) → s.detector ≡ (λ b. calm) → queues_of s ≡ silent_queues l s.cued
unfolding queues_of
silent_same l s layout channel detector =
    rw (layout, channel, detector)
    (λ i. record { layout = l; cued = s.cued; queues = quiet_queues l 1794 (place_most l) i; detectors = calm_detectors l 102 (omega (arith, (bounds l).bands)) i })

pub same_fresh : fresh_queues ≡ queues_of core.fresh
unfolding core.fresh
same_fresh = sym (silent_same Bands20 core.fresh refl refl refl)

-- ---- a change of layout

abbrev changed : Layout → Core → Core
changed l s = record { layout = l; cued = s.cued; channel = λ k. silent; detector = λ b. calm; kept = remapped l s.kept }

switched_same : (l : Layout) (s : Core) → switched_queues l (queues_of s) ≡ queues_of (switched l s)
unfolding switched_queues switched queues_of
switched_same l s = go (same_layout s.layout l)
  where
    go : (same : Bool) → cond same (queues_of s) (silent_queues l s.cued) ≡ queues_of (cond same s (changed l s))
    go true = refl
    go false = sym (silent_same l (changed l s) refl refl refl)

-- ---- a frame's own reset

-- the place cleared from is one of the layout's
pub cleared_inside : (l : Layout) (edge : ℕ) (cued : Bool) → cleared_place l edge cued ≤ channels_of l
cleared_inside l edge true = omega arith
cleared_inside l edge false = omega arith

module _ (head : Head) (flag : Bool) where
  abbrev reset_queues : QueueDecorr → QueueDecorr
  reset_queues t =
      record {
        layout = head.layout;
        cued = flag;
        queues = silent_from (place_of head.layout (cleared_place head.layout head.edge t.cued)) t.queues;
        detectors = t.detectors;
      }

  abbrev reset_core : Core → Core
  reset_core t =
      record { layout = t.layout; cued = t.cued; channel = cleared (clear_from head t.cued) t.channel; detector = t.detector; kept = t.kept }

  reset_same : (t : Core) → t.layout ≡ head.layout → reset_queues (queues_of t) ≡ flagged flag (queues_of (reset_core t))
  unfolding queues_of clear_from
  reset_same t e =
      let place = cleared_place head.layout head.edge t.cued in
      rw e
      (λ i.
      record {
        layout = head.layout;
        cued = flag;
        queues = silent_from_lem head.layout t.channel place 1794 (cleared_inside head.layout head.edge t.cued) (place_most head.layout) i;
        detectors = detectors_with head.layout t.detector (zeros 102);
      })

  -- made ready, with any flag
  pub ready_same : (s : Core) → queues_ready head.layout head.edge flag (queues_of s) ≡ flagged flag (queues_of (ready head s))
  unfolding queues_ready ready
  ready_same s = ap reset_queues (switched_same head.layout s) ∙ reset_same (switched head.layout s) (ready_layout head s)

pub same_ready : (head : Head) (s : Core) → ready_for head (queues_of s) ≡ flagged (not head.empty) (queues_of (ready head s))
same_ready head s = ready_same head (not head.empty) s
