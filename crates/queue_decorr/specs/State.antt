-- The carried state of the queues, fresh and made ready for a frame (Table 8.47, Annex 8.A.3). Assumes nothing.
use Rattle.std.specs.Prelude.{ℕ, ◌-◌, Bool, false, cond, ◌&&◌, List, ◌++◌, leb, ltb, Float, length, take, drop, replicate}
use Rattle.layout.specs.declared.Layout.{Layout}
use Rattle.layout.specs.declared.Layout.TheVariants.{Bands20}
use Rattle.layout.specs.Numbers.{channels_of}
use Rattle.lists.specs.Part.{part}
use Rattle.ps_state.specs.Ready.{cleared_place}
use Rattle.standard.specs.Core.{same_layout}
use Rattle.standard.specs.Numbers.{zero}
use Rattle.queue_decorr.specs.declared.QueueDecorr.{QueueDecorr}
use Rattle.queue_decorr.specs.Queues.{size_of, place_of}

-- every queue silent and every detector calm, in a layout
abbrev pub silent_queues : Layout → Bool → QueueDecorr
silent_queues l cued = record { layout = l; cued = cued; queues = replicate 1794 zero; detectors = replicate 102 zero }

abbrev pub fresh_queues : QueueDecorr
fresh_queues = silent_queues Bands20 false

-- a change of layout leaves silence
unfoldable pub switched_queues : Layout → QueueDecorr → QueueDecorr
switched_queues l s = cond (same_layout s.layout l) s (silent_queues l s.cued)

-- the numbers from a place on are 0
abbrev pub silent_from : ℕ → List Float → List Float
silent_from place xs = take place xs ++ replicate (length xs - place) zero

-- then the frame's own reset: the queues from its first channel on, and never the detectors
unfoldable pub queues_ready : Layout → ℕ → Bool → QueueDecorr → QueueDecorr
queues_ready l edge cued s =
    let t = switched_queues l s in
    record { layout = l; cued = cued; queues = silent_from (place_of l (cleared_place l edge t.cued)) t.queues; detectors = t.detectors }

-- the queues of channel k, in the first of lent places; nothing where the layout has no such channel, or there is no room
unfoldable pub channel_queues : QueueDecorr → ℕ → List Float → List Float
channel_queues s k out =
    cond (ltb k (channels_of s.layout) && leb (size_of s.layout k) (length out))
    (part (place_of s.layout k) (size_of s.layout k) s.queues ++ drop (size_of s.layout k) out)
    out
