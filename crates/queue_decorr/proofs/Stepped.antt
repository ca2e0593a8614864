-- A slot of a channel on its own numbers, by its kind. Assumes nothing.
use Prim.Native.Nat.{ℕ, ◌<◌, ◌≤◌}
use native.Mathlib.Omega.{arith}
use mathlib.Core.Path.{◌≡◌, sym, ◌∙◌}
use mathlib.Core.List.{List, ◌∷◌}
use borrow.Author.Tests.{lt-ltb, le-ltb}
use lib.Ieee.{Float}
use lib.ListN.{length}
use Rattle.complex.specs.declared.Complex.{Complex}
use Rattle.layout.specs.declared.Layout.{Layout}
use Rattle.layout.specs.Numbers.{all_pass_of, short_delay_of}
use Rattle.standard.specs.declared.Chain.{Chain}
use Rattle.standard.specs.Channel.{Channel, chain_of, third_output, channel_after, channel_output}
use Rattle.queue_decorr.specs.Queues.{shifted, oldest_of, chain_numbers, chain_in, numbers_of, channel_from}
use Rattle.queue_decorr.proofs.Queues.{oldest_is, shift_is}
use Rattle.queue_decorr.proofs.Numbers.{chain_numbers_lem, chain_from, long_numbers, long_past, short_numbers, short_past}

module _ (l : Layout) (k : ℕ) (xs : List Float) (x : Complex) where
  -- what comes out of a channel's numbers, and the numbers a slot later
  pub record Stepped (out : Complex) (new : List Float) : Type 0 where
    pub output : out ≡ channel_output l k (channel_from l k xs)
    pub numbers : new ≡ numbers_of l k (channel_after (chain_of l k) (channel_from l k xs) x)

  past_after : (chain : Chain) (c : Channel) → (channel_after chain c x).past ≡ x ∷ c.past
  unfolding channel_after
  past_after chain c = λ i. x ∷ c.past

  pub chain_stepped : k < all_pass_of l → Stepped (third_output (chain_of l k) (chain_in xs)) (chain_numbers (channel_after (chain_of l k) (chain_in xs) x))
  unfolding channel_output
  chain_stepped u =
      record {
        output = rw (lt-ltb k (all_pass_of l) u, chain_from l k u xs);
        numbers = rw (chain_numbers_lem l k u (channel_after (chain_of l k) (channel_from l k xs) x), chain_from l k u xs);
      }

  pub long_stepped : all_pass_of l ≤ k → k < short_delay_of l → length xs ≡ 28 → Stepped (oldest_of xs) (shifted x xs)
  unfolding channel_output
  long_stepped u v long =
      record {
        output = rw (le-ltb k (all_pass_of l) u, lt-ltb k (short_delay_of l) v, long_past l k u v xs) (oldest_is 14 xs long (omega arith));
        numbers =
            shift_is 14 xs long x
            ∙ sym (long_numbers l k u v (channel_after (chain_of l k) (channel_from l k xs) x) ∙ rw (past_after (chain_of l k) (channel_from l k xs), long_past l k u v xs));
      }

  pub short_stepped : all_pass_of l ≤ k → short_delay_of l ≤ k → length xs ≡ 2 → Stepped (oldest_of xs) (shifted x xs)
  unfolding channel_output
  short_stepped u v long =
      record {
        output = rw (le-ltb k (all_pass_of l) u, le-ltb k (short_delay_of l) v, short_past l k u v xs) (oldest_is 1 xs long (omega arith));
        numbers =
            shift_is 1 xs long x
            ∙ sym (short_numbers l k u v (channel_after (chain_of l k) (channel_from l k xs) x) ∙ rw (past_after (chain_of l k) (channel_from l k xs), short_past l k u v xs));
      }
