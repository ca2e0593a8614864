-- A state made ready: what its parts are. Assumes nothing.
use Prim.Native.Nat.{ℕ, ◌≤◌, ◌-◌}
use native.Mathlib.Omega.{arith}
use mathlib.Core.Bool.{Bool, true, false, cond}
use mathlib.Core.List.{List, ◌++◌}
use mathlib.Core.Path.{◌≡◌, sym, ap, ◌∙◌}
use lib.Ieee.{Float}
use lib.ListN.{length, take, drop, replicate, length-replicate}
use Rattle.layout.specs.declared.Layout.{Layout}
use Rattle.layout.specs.Numbers.{channels_of}
use Rattle.lists.specs.Part.{put}
use Rattle.lists.proofs.Parts.{tail_back, part_length}
use Rattle.ps_state.specs.Ready.{cleared_place}
use Rattle.standard.specs.Core.{same_layout}
use Rattle.standard.specs.Numbers.{zero}
use Rattle.queue_decorr.specs.declared.QueueDecorr.{QueueDecorr}
use Rattle.queue_decorr.specs.State.{switched_queues, silent_from, silent_queues}

pub switched_long : (l : Layout) (s : QueueDecorr) → length s.queues ≡ 1794 → length (switched_queues l s).queues ≡ 1794
unfolding switched_queues
switched_long l s long = go (same_layout s.layout l)
  where
    go : (t : Bool) → length (cond t s (silent_queues l s.cued)).queues ≡ 1794
    go true = long
    go false = length-replicate 1794 zero

-- the reset begins at a channel of the layout, or behind the last
pub cleared_most : (l : Layout) (edge : ℕ) (cued : Bool) → cleared_place l edge cued ≤ channels_of l
cleared_most l edge true = omega arith
cleared_most l edge false = omega arith

-- what is lent to the end of the list and comes back silent
pub silent_back : (place : ℕ) (xs ys : List Float) → length xs ≡ 1794 → place ≤ 1794 → ys ≡ replicate (length (take (1794 - place) (drop place xs))) zero
    → put place (1794 - place) xs ys ≡ silent_from place xs
silent_back place xs ys long room is =
    let wide : length (take (1794 - place) (drop place xs)) ≡ length xs - place = part_length place (1794 - place) xs (omega arith) ∙ ap (λ (n : ℕ). n - place) (sym long) in
    tail_back place (1794 - place) xs ys (omega arith) ∙ ap (λ (t : List Float). take place xs ++ t) (is ∙ ap (λ (n : ℕ). replicate n zero) wide)
