-- A run of frames through the queues from fresh: before every frame they are those of the definitions, and every sample that they write is. Assumes nothing.
use Prim.Native.Nat.{ℕ, zero, suc, ◌<◌}
use mathlib.Core.Path.{◌≡◌, ap, ◌∙◌}
use mathlib.Core.List.{List}
use lib.Ieee.{Float}
use Rattle.layout.specs.Numbers.{channels_of}
use Rattle.standard.specs.Core.{Frame, fresh, ready, decorrelated, before}
use Rattle.queue_decorr.specs.declared.QueueDecorr.{QueueDecorr}
use Rattle.queue_decorr.specs.Run.{queues_of, Holds, queues_after, written_at, queues_before, output_at}
use Rattle.queue_decorr.proofs.Same.{same_fresh}
use Rattle.queue_decorr.proofs.Steps.{same_step, same_written}

module _ (f : ℕ → Frame) (split input : ℕ → List Float) (holds : (i : ℕ) → Holds (f i) (split i) (input i)) where
  pub same_state : (i : ℕ) → queues_before f split input i ≡ queues_of (before fresh f i)
  unfolding queues_before before
  same_state zero = same_fresh
  same_state (suc i) = ap (queues_after (f i) (split i) (input i)) (same_state i) ∙ same_step (f i) (split i) (input i) (holds i) (before fresh f i)

  pub same_output : (i n k : ℕ) → n < (f i).head.slots → k < channels_of (f i).head.layout
      → output_at f split input i n k ≡ decorrelated (f i) (ready (f i).head (before fresh f i)) n k
  same_output i n k u v =
      ap (λ (q : QueueDecorr). written_at (f i) (split i) (input i) q n k) (same_state i)
      ∙ same_written (f i) (split i) (input i) (holds i) (before fresh f i) n k u v
