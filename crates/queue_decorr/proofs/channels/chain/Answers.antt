-- `queue_decorr::channels::chain` meets its contract: the delay and the three links, each on its own queue. Assumes nothing.
use mathlib.Core.List.{List}
use mathlib.Core.Path.{◌≡◌, ap, ◌∙◌}
use native.Mathlib.Omega.{arith}
use lib.Ieee.{Float}
use lib.ListN.{length}
use Rattle.complex.specs.Operations.{product}
use Rattle.lists.specs.Part.{part, put}
use Rattle.lists.proofs.Parts.{part_length}
use Rattle.queue_decorr.proofs.Chains.{second_lent, third_lent, fourth_lent, all_back, Links, chain_output, chain_after}
use Rattle.queue_decorr.proofs.channels.chain.Goals as goal

module _ (c : goal.After-slice_known-5-1) where
  abbrev xs : List Float
  xs = c.args.numbers.now

  abbrev ys₀ : List Float
  ys₀ = c.delay.new.queue

  abbrev ys₁ : List Float
  ys₁ = c.link-v.new.queue

  abbrev ys₂ : List Float
  ys₂ = c.link-w.new.queue

  abbrev ys₃ : List Float
  ys₃ = c.link.new.queue

  long : length xs ≡ 28
  long = c.requires

  past_long : length ys₀ ≡ 4
  past_long = c.delay.auto.queue ∙ part_length 0 4 xs (omega (arith, long))

  first_lent : part 4 6 (put 0 4 xs ys₀) ≡ part 4 6 xs
  first_lent = second_lent xs long ys₀ past_long

  first_long : length ys₁ ≡ 6
  first_long = c.link-v.auto.queue ∙ ap length first_lent ∙ part_length 4 6 xs (omega (arith, long))

  second_lent_too : part 10 8 (put 4 6 (put 0 4 xs ys₀) ys₁) ≡ part 10 8 xs
  second_lent_too = third_lent xs long ys₀ past_long ys₁ first_long

  second_long : length ys₂ ≡ 8
  second_long = c.link-w.auto.queue ∙ ap length second_lent_too ∙ part_length 10 8 xs (omega (arith, long))

  third_lent_too : part 18 10 (put 10 8 (put 4 6 (put 0 4 xs ys₀) ys₁) ys₂) ≡ part 18 10 xs
  third_lent_too = fourth_lent xs long ys₀ past_long ys₁ first_long ys₂ second_long

  third_long : length ys₃ ≡ 10
  third_long = c.link.auto.queue ∙ ap length third_lent_too ∙ part_length 18 10 xs (omega (arith, long))

  links : Links c.args.constants xs long c.args.x c.mul-u.result c.link-v.result c.link-w.result c.link.result ys₀ ys₁ ys₂ ys₃
  links =
      record {
        turned = c.mul-u.ensures ∙ ap (product c.args.constants.fractional) c.delay.ensures.answer;
        past_is = c.delay.ensures.queue;
        first_out = rw first_lent at c.link-v.ensures.answer;
        first_is = rw first_lent at c.link-v.ensures.queue;
        second_out = rw second_lent_too at c.link-w.ensures.answer;
        second_is = rw second_lent_too at c.link-w.ensures.queue;
        third_out = rw third_lent_too at c.link.ensures.answer;
        third_is = rw third_lent_too at c.link.ensures.queue;
      }

pub returns : goal.returns
returns c = record {
  answer = chain_output c.args.constants (xs c) (long c) c.args.x (links c);
  numbers =
      all_back (xs c) (long c) (ys₀ c) (past_long c) (ys₁ c) (first_long c) (ys₂ c) (second_long c) (ys₃ c) (third_long c)
      ∙ chain_after c.args.constants (xs c) (long c) c.args.x (links c);
}
