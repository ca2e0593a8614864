-- `queue_decorr::queue::shift` meets its contract: both halves are pushed. Assumes nothing.
use Prim.Native.Nat.{◌/◌, ◌≤◌}
use native.Mathlib.Omega.{arith}
use lib.Ieee.{Float}
use lib.ListN.{length}
use lib.Seq.{length-take-le}
use mathlib.Core.List.{List, ◌++◌}
use mathlib.Core.Path.{◌≡◌, ap, ap₂, ◌∙◌}
use Rattle.lists.specs.Queue.{pushed}
use Rattle.queue_decorr.proofs.Queues.{second_lent, second_back}
use Rattle.queue_decorr.proofs.queue.shift.Goals as goal

pub returns : goal.returns
returns c =
    let queue = c.args.queue.now in
    let front = c.push.new.queue in
    let room : length queue / 2 ≤ length queue = omega arith in
    let kept : length front ≡ length queue / 2 = c.push.auto.queue ∙ length-take-le (length queue / 2) queue room in
    second_back queue front (length queue / 2) room kept c.push-2.new.queue
    ∙ ap₂ (λ (a b : List Float). a ++ b) c.push.ensures (c.push-2.ensures ∙ ap (pushed _) (second_lent queue front (length queue / 2) room kept))
