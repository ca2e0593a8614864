-- A slot of an all-pass chain on its four queues is the definition's. Assumes nothing.
use native.Mathlib.Omega.{arith}
use mathlib.Core.Path.{◌≡◌, ap, ◌∙◌}
use mathlib.Core.List.{List, ◌∷◌, ◌++◌, append_assoc}
use lib.Ieee.{Float}
use lib.ListN.{length}
use Rattle.complex.specs.declared.Complex.{Complex}
use Rattle.complex.specs.Operations.{product}
use Rattle.lists.specs.Part.{part, put}
use Rattle.lists.proofs.Front.{Front, front_none, front_put, front_lent, front_all}
use Rattle.lists.proofs.Parts.{part_length}
use Rattle.standard.specs.declared.Chain.{Chain}
use Rattle.standard.specs.Channel.{Channel, back, link_state, link_output, rotated, first_output, second_output, third_output, channel_after}
use Rattle.queue_decorr.specs.Queues.{shifted, oldest_of, queue_of, chain_numbers, chain_in}
use Rattle.queue_decorr.proofs.Queues.{oldest_is, shift_is}

-- ---- the four queues, lent one after the other: each is as it was when it is lent
module _ (xs : List Float) (long : length xs ≡ 28) (a : List Float) (la : length a ≡ 4) where
  one : Front a 4 xs (put 0 4 xs a)
  one = front_put (front_none xs) 4 a la

  pub second_lent : part 4 6 (put 0 4 xs a) ≡ part 4 6 xs
  second_lent = front_lent one 6

  module _ (b : List Float) (lb : length b ≡ 6) where
    two : Front (a ++ b) 10 xs (put 4 6 (put 0 4 xs a) b)
    two = front_put one 6 b lb

    pub third_lent : part 10 8 (put 4 6 (put 0 4 xs a) b) ≡ part 10 8 xs
    third_lent = front_lent two 8

    module _ (c : List Float) (lc : length c ≡ 8) where
      three : Front (a ++ b ++ c) 18 xs (put 10 8 (put 4 6 (put 0 4 xs a) b) c)
      three = front_put two 8 c lc

      pub fourth_lent : part 18 10 (put 10 8 (put 4 6 (put 0 4 xs a) b) c) ≡ part 18 10 xs
      fourth_lent = front_lent three 10

      pub all_back : (d : List Float) → length d ≡ 10 → put 18 10 (put 10 8 (put 4 6 (put 0 4 xs a) b) c) d ≡ a ++ (b ++ (c ++ d))
      all_back d ld = front_all (front_put three 10 d ld) (omega arith) ∙ simp append_assoc

-- ---- what they hold
module _ (chain : Chain) (xs : List Float) (long : length xs ≡ 28) (x : Complex) where
  abbrev held : Channel
  held = chain_in xs

  past_oldest : oldest_of (part 0 4 xs) ≡ back 1 held.past
  unfolding chain_in
  past_oldest = oldest_is 2 (part 0 4 xs) (part_length 0 4 xs (omega arith)) (omega arith)

  first_oldest : oldest_of (part 4 6 xs) ≡ back 2 held.first
  unfolding chain_in
  first_oldest = oldest_is 3 (part 4 6 xs) (part_length 4 6 xs (omega arith)) (omega arith)

  second_oldest : oldest_of (part 10 8 xs) ≡ back 3 held.second
  unfolding chain_in
  second_oldest = oldest_is 4 (part 10 8 xs) (part_length 10 8 xs (omega arith)) (omega arith)

  third_oldest : oldest_of (part 18 10 xs) ≡ back 4 held.third
  unfolding chain_in
  third_oldest = oldest_is 5 (part 18 10 xs) (part_length 18 10 xs (omega arith)) (omega arith)

  past_shifted : shifted x (part 0 4 xs) ≡ queue_of 2 (x ∷ held.past)
  unfolding chain_in
  past_shifted = shift_is 2 (part 0 4 xs) (part_length 0 4 xs (omega arith)) x

  first_shifted : (w : Complex) → shifted w (part 4 6 xs) ≡ queue_of 3 (w ∷ held.first)
  unfolding chain_in
  first_shifted w = shift_is 3 (part 4 6 xs) (part_length 4 6 xs (omega arith)) w

  second_shifted : (w : Complex) → shifted w (part 10 8 xs) ≡ queue_of 4 (w ∷ held.second)
  unfolding chain_in
  second_shifted w = shift_is 4 (part 10 8 xs) (part_length 10 8 xs (omega arith)) w

  third_shifted : (w : Complex) → shifted w (part 18 10 xs) ≡ queue_of 5 (w ∷ held.third)
  unfolding chain_in
  third_shifted w = shift_is 5 (part 18 10 xs) (part_length 18 10 xs (omega arith)) w

  -- what the delay and the links give and leave
  pub record Links (u v w y : Complex) (a b c d : List Float) : Type 0 where
    pub turned : u ≡ product chain.fractional (oldest_of (part 0 4 xs))
    pub past_is : a ≡ shifted x (part 0 4 xs)
    pub first_out : v ≡ link_output u chain.first (oldest_of (part 4 6 xs))
    pub first_is : b ≡ shifted (link_state u chain.first (oldest_of (part 4 6 xs))) (part 4 6 xs)
    pub second_out : w ≡ link_output v chain.second (oldest_of (part 10 8 xs))
    pub second_is : c ≡ shifted (link_state v chain.second (oldest_of (part 10 8 xs))) (part 10 8 xs)
    pub third_out : y ≡ link_output w chain.third (oldest_of (part 18 10 xs))
    pub third_is : d ≡ shifted (link_state w chain.third (oldest_of (part 18 10 xs))) (part 18 10 xs)

  module _ {u v w y : Complex} {a b c d : List Float} (r : Links u v w y a b c d) where
    u_is : u ≡ rotated chain held
    unfolding rotated
    u_is = r.turned ∙ ap (product chain.fractional) past_oldest

    v_is : v ≡ first_output chain held
    unfolding first_output
    v_is = r.first_out ∙ rw (u_is, first_oldest)

    w_is : w ≡ second_output chain held
    unfolding second_output
    w_is = r.second_out ∙ rw (v_is, second_oldest)

    pub chain_output : y ≡ third_output chain held
    unfolding third_output
    chain_output = r.third_out ∙ rw (w_is, third_oldest)

    pub chain_after : a ++ (b ++ (c ++ d)) ≡ chain_numbers (channel_after chain held x)
    unfolding chain_numbers channel_after
    chain_after =
        rw (
          r.past_is ∙ past_shifted,
          r.first_is ∙ first_shifted _,
          r.second_is ∙ second_shifted _,
          r.third_is ∙ third_shifted _,
          u_is,
          v_is,
          w_is,
          first_oldest,
          second_oldest,
          third_oldest,
        )
