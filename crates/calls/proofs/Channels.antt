-- A channel whose histories are alike as far as its delays reach gives the same output, and a slot later its histories are alike again. Assumes nothing.
use Prim.Native.Nat.{ℕ, zero, suc, ◌<◌}
use native.Mathlib.Omega.{arith}
use mathlib.Core.Path.{◌≡◌, refl}
use mathlib.Core.Bool.{Bool, true, false, cond}
use mathlib.Core.List.{List, ◌∷◌}
use lib.Dec.{T, ltb, ltb→lt}
use borrow.Author.Tests.{lt-ltb}
use Rattle.complex.specs.declared.Complex.{Complex}
use Rattle.layout.specs.declared.Layout.{Layout}
use Rattle.layout.specs.Numbers.{all_pass_of, short_delay_of}
use Rattle.standard.specs.declared.Chain.{Chain}
use Rattle.standard.specs.Channel.{Channel, chain_of, back, rotated, first_output, second_output, third_output, channel_after, channel_at, past_at, channel_output}
use Rattle.calls.specs.Near.{Alike, reach_of, NearChannel}

-- ---- histories

-- what is pushed is the newest entry, and every other one moves a place back
pub push_alike : (d : ℕ) (x y : Complex) (g h : List Complex) → x ≡ y → Alike d g h → Alike d (x ∷ g) (y ∷ h)
push_alike d x y g h e a zero u = e
push_alike d x y g h e a (suc i) u = a i (omega arith)

-- after n slots of a signal
pub past_alike : (d : ℕ) (g h : List Complex) (x : ℕ → Complex) (n : ℕ) → Alike d g h → Alike d (past_at g x n) (past_at h x n)
unfolding past_at
past_alike d g h x zero a = a
past_alike d g h x (suc n) a = push_alike d (x n) (x n) (past_at g x n) (past_at h x n) refl (past_alike d g h x n a)

-- ---- an all-pass chain

module _ (chain : Chain) (c d : Channel) (past : Alike 2 c.past d.past) where
  rotated_same : rotated chain c ≡ rotated chain d
  unfolding rotated
  rotated_same = rw (past 1 (omega arith))

  module _ (first : Alike 3 c.first d.first) where
    first_same : first_output chain c ≡ first_output chain d
    unfolding first_output
    first_same = rw (rotated_same, first 2 (omega arith))

    module _ (second : Alike 4 c.second d.second) where
      second_same : second_output chain c ≡ second_output chain d
      unfolding second_output
      second_same = rw (first_same, second 3 (omega arith))

      third_same : Alike 5 c.third d.third → third_output chain c ≡ third_output chain d
      unfolding third_output
      third_same third = rw (second_same, third 4 (omega arith))

-- ---- a channel

module _ (l : Layout) (k : ℕ) where
  reach_chain : k < all_pass_of l → reach_of l k ≡ 2
  reach_chain u = rw (lt-ltb k (all_pass_of l) u)

  -- two channels of this place
  module _ (c d : Channel) (near : NearChannel l k c d) where
    past_chain : k < all_pass_of l → Alike 2 c.past d.past
    past_chain u = rw (reach_chain u) at near.past

    pub near_output : channel_output l k c ≡ channel_output l k d
    unfolding channel_output
    near_output = go (ltb k (all_pass_of l)) (ltb k (short_delay_of l)) (ltb→lt k (all_pass_of l)) near.past
      where
        go : (chained long : Bool) → (T chained → k < all_pass_of l) → Alike (cond chained 2 (cond long 14 1)) c.past d.past
            → cond chained (third_output (chain_of l k) c) (cond long (back 13 c.past) (back 0 c.past))
            ≡ cond chained (third_output (chain_of l k) d) (cond long (back 13 d.past) (back 0 d.past))
        go true long inside past = third_same (chain_of l k) c d past (near.first (inside tt)) (near.second (inside tt)) (near.third (inside tt))
        go false true inside past = past 13 (omega arith)
        go false false inside past = past 0 (omega arith)

    near_step : (chain : Chain) (x : Complex) → NearChannel l k (channel_after chain c x) (channel_after chain d x)
    unfolding channel_after
    near_step chain x =
        record {
          past = push_alike (reach_of l k) x x c.past d.past refl near.past;
          first = λ u. push_alike 3 _ _ c.first d.first (rw (rotated_same chain c d (past_chain u), near.first u 2 (omega arith))) (near.first u);
          second = λ u. push_alike 4 _ _ c.second d.second (rw (first_same chain c d (past_chain u) (near.first u), near.second u 3 (omega arith))) (near.second u);
          third =
              λ u. push_alike 5 _ _ c.third d.third
              (rw (second_same chain c d (past_chain u) (near.first u) (near.second u), near.third u 4 (omega arith))) (near.third u);
        }

  pub near_channel : (chain : Chain) (c d : Channel) (x : ℕ → Complex) (n : ℕ) → NearChannel l k c d → NearChannel l k (channel_at chain c x n) (channel_at chain d x n)
  unfolding channel_at
  near_channel chain c d x zero near = near
  near_channel chain c d x (suc n) near = near_step (channel_at chain c x n) (channel_at chain d x n) (near_channel chain c d x n near) chain (x n)
