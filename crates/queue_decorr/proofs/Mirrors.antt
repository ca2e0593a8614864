-- A decoder's numbers, made ready for a frame: their rings turned around are the queues made ready. Assumes nothing.
use Prim.Native.Nat.{ℕ}
use mathlib.Core.Path.{◌≡◌, sym, ap, ◌∙◌}
use mathlib.Core.Bool.{Bool, false}
use mathlib.Core.List.{[]}
use Rattle.layout.specs.declared.Layout.{Layout}
use Rattle.ps_state.specs.declared.PsDecoder.{PsDecoder}
use Rattle.ps_state.specs.State.{core_of}
use Rattle.ps_state.specs.Ready.{readied}
use Rattle.ps_state.specs.Shape.{Shaped}
use Rattle.ps_state.proofs.Readied.{near_readied}
use Rattle.standard.specs.Core.{Head, ready}
use Rattle.queue_decorr.specs.State.{queues_ready}
use Rattle.queue_decorr.specs.Run.{mirrored, flagged}
use Rattle.queue_decorr.proofs.Same.{ready_same}
use Rattle.queue_decorr.proofs.Calls.{queues_near}

-- any frame of a layout and an edge
abbrev head_of : Layout → ℕ → Head
head_of l edge = record { layout = l; slots = 0; edge = edge; empty = false; borders = []; modes = record { fine = false; rb = false; phase = false } }

pub mirror_ready : (l : Layout) (edge : ℕ) (cued : Bool) (s : PsDecoder) → Shaped s → queues_ready l edge cued (mirrored s) ≡ flagged cued (mirrored (readied l edge s))
mirror_ready l edge cued s shaped =
    ready_same (head_of l edge) cued (core_of s)
    ∙ sym (ap (flagged cued) (queues_near (core_of (readied l edge s)) (ready (head_of l edge) (core_of s)) (near_readied s (head_of l edge) shaped)))
