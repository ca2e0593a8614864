-- The delays of every channel as plain queues in one list, channel after channel: for an all-pass channel queues of 2, 3, 4 and 5 complex numbers, for a
-- delay of 14 slots one of 14, for a delay of one slot one of a single number. A queue of complex numbers is two of floats, newest first: the real parts,
-- then the imaginary parts. Assumes nothing.
use Rattle.std.specs.Prelude.{ℕ, ◌+◌, ◌*◌, ◌/◌, min, ◌-◌, cond, List, [], ◌++◌, ltb, Float, length, take, drop}
use Rattle.complex.specs.declared.Complex.{Complex}
use Rattle.layout.specs.declared.Layout.{Layout}
use Rattle.layout.specs.Numbers.{channels_of, all_pass_of, short_delay_of}
use Rattle.lists.specs.Part.{part}
use Rattle.lists.specs.Queue.{pushed}
use Rattle.lists.specs.Rows.{rows, tabulate}
use Rattle.planar.specs.Cells.{cell, planar}
use Rattle.standard.specs.Channel.{Channel, back}

-- ---- a queue of complex numbers

-- x goes in first, every entry moves one place, and the last falls out
abbrev pub shifted : Complex → List Float → List Float
shifted x queue = pushed x.re (take (length queue / 2) queue) ++ pushed x.im (drop (length queue / 2) queue)

-- the last of d entries
abbrev pub oldest_of : List Float → Complex
oldest_of queue = cell (length queue / 2) queue (length queue / 2 - 1)

-- the queue of d entries that holds a history, and the history of such a queue
abbrev pub queue_of : ℕ → List Complex → List Float
queue_of d history = planar d (λ i. back i history)

abbrev pub history_in : ℕ → List Float → List Complex
history_in d queue = tabulate (λ i. cell d queue i) d

-- ---- a channel

unfoldable pub chain_numbers : Channel → List Float
chain_numbers c = queue_of 2 c.past ++ (queue_of 3 c.first ++ (queue_of 4 c.second ++ queue_of 5 c.third))

unfoldable pub chain_in : List Float → Channel
chain_in numbers =
    record {
      past = history_in 2 (part 0 4 numbers);
      first = history_in 3 (part 4 6 numbers);
      second = history_in 4 (part 10 8 numbers);
      third = history_in 5 (part 18 10 numbers);
    }

abbrev delay_in : ℕ → List Float → Channel
delay_in d numbers = record { past = history_in d numbers; first = []; second = []; third = [] }

-- the numbers of channel k, and the channel of such numbers
unfoldable pub numbers_of : Layout → ℕ → Channel → List Float
numbers_of l k c = cond (ltb k (all_pass_of l)) (chain_numbers c) (cond (ltb k (short_delay_of l)) (queue_of 14 c.past) (queue_of 1 c.past))

unfoldable pub channel_from : Layout → ℕ → List Float → Channel
channel_from l k numbers = cond (ltb k (all_pass_of l)) (chain_in numbers) (cond (ltb k (short_delay_of l)) (delay_in 14 numbers) (delay_in 1 numbers))

-- ---- all channels

-- how many numbers channel k has, and where they stand
abbrev pub size_of : Layout → ℕ → ℕ
size_of l k = cond (ltb k (short_delay_of l)) 28 2

abbrev pub place_of : Layout → ℕ → ℕ
place_of l k = 28 * min k (short_delay_of l) + 2 * (k - min k (short_delay_of l))

abbrev pub channel_in : Layout → List Float → ℕ → Channel
channel_in l queues k = channel_from l k (part (place_of l k) (size_of l k) queues)

-- the numbers that hold a layout's channels; what lies behind stays
unfoldable pub queues_with : Layout → (ℕ → Channel) → List Float → List Float
queues_with l channel old = rows (λ k. numbers_of l k (channel k)) (channels_of l) ++ drop (place_of l (channels_of l)) old
