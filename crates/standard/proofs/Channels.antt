-- A channel slot by slot: its state after one slot more, and what came in, on which its chain does not bear. Assumes nothing.
use mathlib.Core.Path.{◌≡◌, refl, ap}
use mathlib.Core.List.{List, ◌∷◌}
use Prim.Native.Nat.{ℕ, zero, suc, ◌+◌}
use native.Mathlib.Numerals.{add-one}
use Rattle.complex.specs.declared.Complex.{Complex}
use Rattle.standard.specs.declared.Chain.{Chain}
use Rattle.standard.specs.Channel.{Channel, channel_after, channel_at, past_at}

module _ (chain : Chain) (c : Channel) (x : ℕ → Complex) where
  pub channel_next : (n : ℕ) → channel_at chain c x (n + 1) ≡ channel_after chain (channel_at chain c x n) (x n)
  unfolding channel_at
  channel_next n = ap (channel_at chain c x) (add-one n)

  pub past_of : (n : ℕ) → (channel_at chain c x n).past ≡ past_at c.past x n
  unfolding channel_at channel_after past_at
  past_of zero = refl
  past_of (suc n) = ap (λ (h : List Complex). x n ∷ h) (past_of n)
