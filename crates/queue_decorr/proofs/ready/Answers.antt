-- `queue_decorr::ready` meets its contract: the queues from the cleared channel on are silent. Assumes nothing.
use mathlib.Core.Bool.{Bool}
use mathlib.Core.Path.{◌≡◌, ap, ap₂, ◌∙◌}
use native.Mathlib.Omega.{arith}
use Prim.Native.Nat.{◌-◌, ◌≤◌}
use borrow.Author.Rules.{rules}
use lib.Ieee.{binary64, of_bits}
use lib.ListN.{length, replicate, take, drop}
use Rattle.standard.proofs.Literals.{zero_is}
use Rattle.ps_state.specs.Ready.{cleared_place}
use Rattle.queue_decorr.specs.declared.QueueDecorr.{QueueDecorr}
use Rattle.queue_decorr.specs.Queues.{place_of}
use Rattle.queue_decorr.specs.State.{switched_queues, silent_from, queues_ready}
use Rattle.queue_decorr.proofs.Memory.{place_rises, place_most}
use Rattle.queue_decorr.proofs.Readied.{switched_long, cleared_most, silent_back}
use Rattle.queue_decorr.proofs.ready.Goals as goal

pub returns : goal.returns
unfolding queues_ready
returns c =
    let a = c.args in
    let before = c.switched-before.result in
    let is = c.switched-before.ensures in
    let cleared = cleared_place a.layout a.edge before.cued in
    let from : c.place-from.result ≡ place_of a.layout cleared = c.place-from.ensures ∙ ap (place_of a.layout) c.cleared_place.ensures in
    let within : c.place-from.result ≤ 1794 = omega (arith, from, place_rises a.layout _ _ (cleared_most a.layout a.edge before.cued), place_most a.layout) in
    let wide : length before.queues ≡ 1794 = ap (λ (s : QueueDecorr). length s.queues) is ∙ switched_long a.layout a.state c.well_formed.0.1.1.1.1.0.1.0.1 in
    let silent : c.fill.new.self ≡ replicate (length (take (1794 - c.place-from.result) (drop c.place-from.result before.queues))) (of_bits binary64 0) = search rules in
    let back = silent_back c.place-from.result before.queues c.fill.new.self wide within (silent ∙ ap (replicate _) zero_is) in
    λ i. record {
      layout = a.layout;
      cued = a.cued;
      queues = (back ∙ ap₂ silent_from from (ap (λ (s : QueueDecorr). s.queues) is) ∙ ap (λ (b : Bool). silent_from (place_of a.layout (cleared_place a.layout a.edge b)) (switched_queues a.layout a.state).queues) (ap (λ (s : QueueDecorr). s.cued) is)) i;
      detectors = (is i).detectors;
    }
