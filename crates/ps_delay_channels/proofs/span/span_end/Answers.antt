-- `ps_delay_channels::span::span_end` meets its contract. The loop's invariant: all channels from k to before `next` are of its band. The measure is what is
-- left to `end`. Assumes nothing.
use mathlib.Core.Path.{◌≡◌, ap, ◌∙◌}
use mathlib.Core.Logic.{◌⊎◌, inl, inr}
use mathlib.Core.List.{List}
use Prim.Native.Nat.{ℕ, ◌+◌, ◌<◌, ◌≤◌}
use native.Mathlib.Nat.{eq-or-lt_of_le}
use native.Mathlib.Omega.{arith}
use lib.ListN.{get_or}
use Rattle.ps_delay_channels.proofs.span.span_end.Invariants.{Alike}
use Rattle.ps_delay_channels.proofs.span.span_end.Goals as goal

-- one channel alone, and one more
alone : (map : List ℕ) (k : ℕ) → Alike map k (k + 1)
alone map k j u v = ap (λ (i : ℕ). get_or map i 0) (the_same j u v)
  where
    the_same : (j : ℕ) → k ≤ j → j < k + 1 → j ≡ k
    the_same j u v = omega arith

more : (map : List ℕ) (k next : ℕ) → Alike map k next → get_or map next 0 ≡ get_or map k 0 → Alike map k (next + 1)
more map k next a e j u v = go j u (eq-or-lt_of_le (at_most j v))
  where
    at_most : (j : ℕ) → j < next + 1 → j ≤ next
    at_most j v = omega arith

    go : (j : ℕ) → k ≤ j → (j ≡ next) ⊎ (j < next) → get_or map j 0 ≡ get_or map k 0
    go j u (inl r) = ap (λ (i : ℕ). get_or map i 0) r ∙ e
    go j u (inr r) = a j u r

pub loop-next-init : goal.loop-next-init
loop-next-init c = (alone c.args.map.now c.args.k, (omega arith, omega arith))

pub loop-next-preserved : goal.loop-next-preserved
loop-next-preserved c =
    let at = c.loop-next in
    (more c.args.map.now c.args.k at.next at.invariant.0 c.if-map-next.false, (omega arith, omega arith))
