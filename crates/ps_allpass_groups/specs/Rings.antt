-- The delays of four channels in 14 cells of eight numbers: rings of 2, 3, 4 and 5 cells, whose position is the number of slots so far modulo their
-- length. Assumes nothing.
use Rattle.std.specs.Prelude.{ℕ, ◌+◌, ◌%◌}
use Rattle.complex.specs.declared.Complex.{Complex}
use Rattle.lists.specs.Ring.{Ring}
use Rattle.standard.specs.Numbers.{nought}
use Rattle.standard.specs.Channel.{Channel}

-- cells that hold a channel, after t slots
pub record Holds (t : ℕ) (f : ℕ → Complex) (c : Channel) : Type 0 where
  pub past : Ring nought 2 (t % 2) f c.past
  pub first : Ring nought 3 (t % 3) (λ j. f (2 + j)) c.first
  pub second : Ring nought 4 (t % 4) (λ j. f (5 + j)) c.second
  pub third : Ring nought 5 (t % 5) (λ j. f (9 + j)) c.third
