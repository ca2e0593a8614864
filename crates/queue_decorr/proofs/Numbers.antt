-- The numbers of one channel: how many they are, what channel they hold, and that channels which are near have the same. Assumes nothing.
use Prim.Native.Nat.{ℕ, ◌<◌, ◌≤◌}
use native.Mathlib.Omega.{arith}
use mathlib.Core.Path.{◌≡◌, refl, ◌∙◌}
use mathlib.Core.Bool.{Bool, true, false}
use mathlib.Core.List.{List}
use borrow.Author.Tests.{ltb-true, ltb-false, lt-ltb, le-ltb}
use lib.Dec.{ltb}
use lib.Ieee.{Float}
use lib.ListN.{length}
use Rattle.calls.specs.Near.{Alike, reach_of, NearChannel}
use Rattle.layout.specs.declared.Layout.{Layout}
use Rattle.layout.specs.Numbers.{all_pass_of, short_delay_of}
use Rattle.layout.proofs.Bounds.{bounds}
use Rattle.lists.specs.Part.{part}
use Rattle.lists.proofs.Parts.{part_length}
use Rattle.standard.specs.Channel.{Channel}
use Rattle.queue_decorr.specs.Queues.{queue_of, history_in, chain_numbers, chain_in, numbers_of, channel_from, size_of}
use Rattle.queue_decorr.proofs.Queues.{queue_length, queue_same, held_again, queue_round}
use Rattle.queue_decorr.proofs.Lines.{line_length, line_parts, line_of}

-- ---- a chain

module _ (c : Channel) where
  chain_long : length (chain_numbers c) ≡ 28
  unfolding chain_numbers
  chain_long = line_length (queue_of 2 c.past) (queue_of 3 c.first) (queue_of 4 c.second) (queue_of 5 c.third) (queue_length 2 c.past) (queue_length 3 c.first) (queue_length 4 c.second) (queue_length 5 c.third)

  record HeldChain (d : Channel) : Type 0 where
    pub past : Alike 2 d.past c.past
    pub first : Alike 3 d.first c.first
    pub second : Alike 4 d.second c.second
    pub third : Alike 5 d.third c.third

  chain_held : HeldChain (chain_in (chain_numbers c))
  unfolding chain_numbers chain_in
  chain_held =
      let p = line_parts (queue_of 2 c.past) (queue_of 3 c.first) (queue_of 4 c.second) (queue_of 5 c.third) (queue_length 2 c.past) (queue_length 3 c.first) (queue_length 4 c.second) (queue_length 5 c.third) in
      record {
        past = λ i u. rw p.first (held_again 2 c.past i u);
        first = λ i u. rw p.second (held_again 3 c.first i u);
        second = λ i u. rw p.third (held_again 4 c.second i u);
        third = λ i u. rw p.fourth (held_again 5 c.third i u);
      }

chain_round : (numbers : List Float) → length numbers ≡ 28 → chain_numbers (chain_in numbers) ≡ numbers
unfolding chain_numbers chain_in
chain_round numbers long =
    rw (
      queue_round 2 (part 0 4 numbers) (part_length 0 4 numbers (omega arith)),
      queue_round 3 (part 4 6 numbers) (part_length 4 6 numbers (omega arith)),
      queue_round 4 (part 10 8 numbers) (part_length 10 8 numbers (omega arith)),
      queue_round 5 (part 18 10 numbers) (part_length 18 10 numbers (omega arith)),
    )
    (line_of numbers long)

chain_same : (c d : Channel) → Alike 2 c.past d.past → Alike 3 c.first d.first → Alike 4 c.second d.second → Alike 5 c.third d.third
    → chain_numbers c ≡ chain_numbers d
unfolding chain_numbers
chain_same c d past first second third =
    rw (
      queue_same 2 c.past d.past past,
      queue_same 3 c.first d.first first,
      queue_same 4 c.second d.second second,
      queue_same 5 c.third d.third third,
    )

-- ---- a channel of any kind

module _ (l : Layout) (k : ℕ) where
  -- by its kind
  pub record Kinds (G : Type 0) : Type 0 where
    pub chain : k < all_pass_of l → G
    pub long : all_pass_of l ≤ k → k < short_delay_of l → G
    pub short : all_pass_of l ≤ k → short_delay_of l ≤ k → G

  pub by_kind : {G : Type 0} → Kinds G → G
  by_kind {G} kinds = go (ltb k (all_pass_of l)) refl (ltb k (short_delay_of l)) refl
    where
      go : (a : Bool) → ltb k (all_pass_of l) ≡ a → (b : Bool) → ltb k (short_delay_of l) ≡ b → G
      go true e b f = kinds.chain (ltb-true k (all_pass_of l) e)
      go false e true f = kinds.long (ltb-false k (all_pass_of l) e) (ltb-true k (short_delay_of l) f)
      go false e false f = kinds.short (ltb-false k (all_pass_of l) e) (ltb-false k (short_delay_of l) f)

  -- what each kind has
  module _ (u : k < all_pass_of l) where
    pub chain_size : size_of l k ≡ 28
    chain_size = rw (lt-ltb k (short_delay_of l) (omega (arith, (bounds l).short)))

    pub chain_numbers_lem : (c : Channel) → numbers_of l k c ≡ chain_numbers c
    unfolding numbers_of
    chain_numbers_lem c = rw (lt-ltb k (all_pass_of l) u)

    pub chain_from : (numbers : List Float) → channel_from l k numbers ≡ chain_in numbers
    unfolding channel_from
    chain_from numbers = rw (lt-ltb k (all_pass_of l) u)

    chain_reach : reach_of l k ≡ 2
    chain_reach = rw (lt-ltb k (all_pass_of l) u)

  module _ (u : all_pass_of l ≤ k) (v : k < short_delay_of l) where
    pub long_size : size_of l k ≡ 28
    long_size = rw (lt-ltb k (short_delay_of l) v)

    pub long_numbers : (c : Channel) → numbers_of l k c ≡ queue_of 14 c.past
    unfolding numbers_of
    long_numbers c = rw (le-ltb k (all_pass_of l) u, lt-ltb k (short_delay_of l) v)

    pub long_past : (numbers : List Float) → (channel_from l k numbers).past ≡ history_in 14 numbers
    unfolding channel_from
    long_past numbers = rw (le-ltb k (all_pass_of l) u, lt-ltb k (short_delay_of l) v)

    long_reach : reach_of l k ≡ 14
    long_reach = rw (le-ltb k (all_pass_of l) u, lt-ltb k (short_delay_of l) v)

  module _ (u : all_pass_of l ≤ k) (v : short_delay_of l ≤ k) where
    pub short_size : size_of l k ≡ 2
    short_size = rw (le-ltb k (short_delay_of l) v)

    pub short_numbers : (c : Channel) → numbers_of l k c ≡ queue_of 1 c.past
    unfolding numbers_of
    short_numbers c = rw (le-ltb k (all_pass_of l) u, le-ltb k (short_delay_of l) v)

    pub short_past : (numbers : List Float) → (channel_from l k numbers).past ≡ history_in 1 numbers
    unfolding channel_from
    short_past numbers = rw (le-ltb k (all_pass_of l) u, le-ltb k (short_delay_of l) v)

    short_reach : reach_of l k ≡ 1
    short_reach = rw (le-ltb k (all_pass_of l) u, le-ltb k (short_delay_of l) v)

  pub numbers_length : (c : Channel) → length (numbers_of l k c) ≡ size_of l k
  numbers_length c =
      by_kind record {
        chain = λ u. rw (chain_numbers_lem u c, chain_size u) (chain_long c);
        long = λ u v. rw (long_numbers u v c, long_size u v) (queue_length 14 c.past);
        short = λ u v. rw (short_numbers u v c, short_size u v) (queue_length 1 c.past);
      }

  -- numbers are those of the channel that they hold
  pub numbers_round : (numbers : List Float) → length numbers ≡ size_of l k → numbers_of l k (channel_from l k numbers) ≡ numbers
  numbers_round numbers e =
      by_kind record {
        chain = λ u. rw (chain_numbers_lem u (channel_from l k numbers), chain_from u numbers) (chain_round numbers (e ∙ chain_size u));
        long = λ u v. rw (long_numbers u v (channel_from l k numbers), long_past u v numbers) (queue_round 14 numbers (e ∙ long_size u v));
        short = λ u v. rw (short_numbers u v (channel_from l k numbers), short_past u v numbers) (queue_round 1 numbers (e ∙ short_size u v));
      }

  -- the channel that a channel's numbers hold is near it
  pub near_held : (c : Channel) → NearChannel l k (channel_from l k (numbers_of l k c)) c
  near_held c =
      by_kind record {
        chain = λ u.
            let h = chain_held c in
            let past : Alike (reach_of l k) (channel_from l k (numbers_of l k c)).past c.past = rw (chain_numbers_lem u c, chain_from u (chain_numbers c), chain_reach u) h.past in
            record {
              past = past;
              first = λ w. rw (chain_numbers_lem u c, chain_from u (chain_numbers c)) h.first;
              second = λ w. rw (chain_numbers_lem u c, chain_from u (chain_numbers c)) h.second;
              third = λ w. rw (chain_numbers_lem u c, chain_from u (chain_numbers c)) h.third;
            };
        long = λ u v. plain u (rw (long_numbers u v c, long_past u v (queue_of 14 c.past), long_reach u v) (held_again 14 c.past));
        short = λ u v. plain u (rw (short_numbers u v c, short_past u v (queue_of 1 c.past), short_reach u v) (held_again 1 c.past));
      }
    where
      plain : all_pass_of l ≤ k → Alike (reach_of l k) (channel_from l k (numbers_of l k c)).past c.past → NearChannel l k (channel_from l k (numbers_of l k c)) c
      plain u past = record { past = past; first = λ w. absurd (omega arith); second = λ w. absurd (omega arith); third = λ w. absurd (omega arith) }

  -- channels that are near have the same numbers
  pub near_numbers : (c d : Channel) → NearChannel l k c d → numbers_of l k c ≡ numbers_of l k d
  near_numbers c d near =
      by_kind record {
        chain = λ u.
            rw (chain_numbers_lem u c, chain_numbers_lem u d)
            (chain_same c d (rw (chain_reach u) at near.past) (near.first u) (near.second u) (near.third u));
        long = λ u v. rw (long_numbers u v c, long_numbers u v d) (queue_same 14 c.past d.past (rw (long_reach u v) at near.past));
        short = λ u v. rw (short_numbers u v c, short_numbers u v d) (queue_same 1 c.past d.past (rw (short_reach u v) at near.past));
      }
