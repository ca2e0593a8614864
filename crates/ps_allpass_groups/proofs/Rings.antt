-- One slot over the cells of a lane is one slot of its channel: each ring gives what its delay asks for, and takes what the channel's history takes.
-- Assumes nothing.
use mathlib.Core.Path.{◌≡◌, refl, sym, ap, ap₂, ◌∙◌}
use mathlib.Core.Logic.{◌≢◌}
use mathlib.Core.List.{List, ◌∷◌}
use Prim.Native.Nat.{ℕ, ◌+◌, ◌%◌, ◌<◌}
use native.Mathlib.Omega.{arith}
use Rattle.complex.specs.declared.Complex.{Complex}
use Rattle.complex.specs.Operations.{product}
use Rattle.lists.specs.Ring.{Ring}
use Rattle.lists.proofs.Ring.{ring_read, ring_push, ring_same, turned_counter}
use Rattle.standard.specs.declared.Chain.{Chain}
use Rattle.standard.specs.Numbers.{nought}
use Rattle.standard.specs.Channel.{Channel, link_state, link_output, rotated, first_output, second_output, third_output, channel_after}
use Rattle.ps_allpass_groups.specs.Rings.{Holds}
use Rattle.ps_allpass_groups.proofs.Cells.{Put, Step}

-- d cells from `base` on are the ring of a history, after t slots
abbrev RingOf : ℕ → ℕ → ℕ → (ℕ → Complex) → List Complex → Type 0
RingOf base d t f h = Ring nought d (t % d) (λ j. f (base + j)) h

-- a write at the ring's position, and one elsewhere
module _ (base d t : ℕ) {k : ℕ} {v : Complex} {f₀ f : ℕ → Complex} {h : List Complex} (r : RingOf base d t f₀ h) (p : Put k v f₀ f) where
  ring_in : k ≡ base + t % d → 0 < d → RingOf base d (t + 1) f (v ∷ h)
  ring_in e l =
      rw (turned_counter d t l) at
      (ring_push r (λ j. f (base + j)) v (ap f (sym e) ∙ p.here) (λ j u ne. p.rest (base + j) (λ (q : base + j ≡ k). ne (omega arith))))

  ring_off : ((j : ℕ) → j < d → base + j ≢ k) → RingOf base d t f h
  ring_off away = ring_same (λ j u. p.rest (base + j) (away j u)) r

module _ (t : ℕ) (chain : Chain) (c : Channel) (x : Complex) {f₀ f₁ f₂ f₃ f₄ : ℕ → Complex} {u v w y : Complex} (r : Holds t f₀ c)
    (enter : Put (t % 2) x f₀ f₁) (turned : u ≡ product chain.fractional (f₀ (t % 2))) (one : Step (2 + t % 3) u chain.first f₁ f₂ v)
    (two : Step (5 + t % 4) v chain.second f₂ f₃ w) (three : Step (9 + t % 5) w chain.third f₃ f₄ y) where
  is_rotated : u ≡ rotated chain c
  unfolding rotated
  is_rotated = turned ∙ ap (product chain.fractional) (ring_read r.past)

  first₁ : RingOf 2 3 t f₁ c.first
  first₁ = ring_off 2 3 t r.first enter (λ j l (e : 2 + j ≡ t % 2). omega arith)

  second₂ : RingOf 5 4 t f₂ c.second
  second₂ =
      ring_off 5 4 t (ring_off 5 4 t r.second enter (λ j l (e : 5 + j ≡ t % 2). omega arith)) one.state (λ j l (e : 5 + j ≡ 2 + t % 3). omega arith)

  third₃ : RingOf 9 5 t f₃ c.third
  third₃ =
      ring_off 9 5 t
      (ring_off 9 5 t (ring_off 9 5 t r.third enter (λ j l (e : 9 + j ≡ t % 2). omega arith)) one.state (λ j l (e : 9 + j ≡ 2 + t % 3). omega arith))
      two.state (λ j l (e : 9 + j ≡ 5 + t % 4). omega arith)

  is_first : v ≡ first_output chain c
  unfolding first_output
  is_first = one.output ∙ ap₂ (λ (a b : Complex). link_output a chain.first b) is_rotated (ring_read first₁)

  is_second : w ≡ second_output chain c
  unfolding second_output
  is_second = two.output ∙ ap₂ (λ (a b : Complex). link_output a chain.second b) is_first (ring_read second₂)

  pub is_third : y ≡ third_output chain c
  unfolding third_output
  is_third = three.output ∙ ap₂ (λ (a b : Complex). link_output a chain.third b) is_second (ring_read third₃)

  past₁ : RingOf 0 2 (t + 1) f₁ (x ∷ c.past)
  past₁ = ring_in 0 2 t (ring_same (λ j l. ap f₀ (omega arith)) r.past) enter (omega arith) (omega arith)

  first₂ : RingOf 2 3 (t + 1) f₂ (link_state u chain.first (f₁ (2 + t % 3)) ∷ c.first)
  first₂ = ring_in 2 3 t first₁ one.state refl (omega arith)

  second₃ : RingOf 5 4 (t + 1) f₃ (link_state v chain.second (f₂ (5 + t % 4)) ∷ c.second)
  second₃ = ring_in 5 4 t second₂ two.state refl (omega arith)

  third₄ : RingOf 9 5 (t + 1) f₄ (link_state w chain.third (f₃ (9 + t % 5)) ∷ c.third)
  third₄ = ring_in 9 5 t third₃ three.state refl (omega arith)

  pub held : Holds (t + 1) f₄ (channel_after chain c x)
  unfolding channel_after
  held =
      record {
        past =
            ring_same (λ j l. ap f₄ (omega arith))
            (ring_off 0 2 (t + 1)
            (ring_off 0 2 (t + 1) (ring_off 0 2 (t + 1) past₁ one.state (λ j l (e : 0 + j ≡ 2 + t % 3). omega arith)) two.state
            (λ j l (e : 0 + j ≡ 5 + t % 4). omega arith)) three.state (λ j l (e : 0 + j ≡ 9 + t % 5). omega arith));
        first =
            rw (← is_rotated, ← ring_read first₁)
            (ring_off 2 3 (t + 1) (ring_off 2 3 (t + 1) first₂ two.state (λ j l (e : 2 + j ≡ 5 + t % 4). omega arith)) three.state
            (λ j l (e : 2 + j ≡ 9 + t % 5). omega arith));
        second = rw (← is_first, ← ring_read second₂) (ring_off 5 4 (t + 1) second₃ three.state (λ j l (e : 5 + j ≡ 9 + t % 5). omega arith));
        third = rw (← is_second, ← ring_read third₃) third₄;
      }
