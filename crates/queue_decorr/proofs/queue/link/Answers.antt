-- `queue_decorr::queue::link` meets its contract: the products and sums are the definition's. Assumes nothing.
use mathlib.Core.List.{List}
use mathlib.Core.Path.{◌≡◌, ap, ◌∙◌}
use borrow.Author.Rules.{rules}
use lib.Ieee.{Float}
use Rattle.complex.specs.declared.Complex.{Complex}
use Rattle.complex.specs.Operations.{product}
use Rattle.standard.specs.Channel.{link_state, link_output}
use Rattle.queue_decorr.specs.Queues.{oldest_of}
use Rattle.queue_decorr.proofs.queue.link.Goals as goal

-- what is turned is the oldest, by whatever name the code reads it
turned_is : (rotation : Complex) (queue : List Float) {turned read : Complex} → turned ≡ product rotation read → read ≡ oldest_of queue
    → turned ≡ product rotation (oldest_of queue)
turned_is rotation queue turned read = turned ∙ ap (product rotation) read

pub returns : goal.returns
unfolding link_state link_output
returns c =
    let turned = turned_is c.args.constants.rotation c.args.queue.now c.mul-turned.ensures (search rules) in
    record {
      answer = c.sub.ensures ∙ rw (c.scale-2.ensures, c.add-state.ensures, c.scale.ensures, turned);
      queue = c.shift.ensures ∙ rw (c.add-state.ensures, c.scale.ensures, turned);
    }
