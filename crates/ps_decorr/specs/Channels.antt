-- What the memory of the de-correlation holds, channel by channel: all-pass channels first, then plain delays. Assumes nothing.
use Rattle.std.specs.Prelude.{ℕ, ◌+◌, ◌-◌, cond, List, [], ltb, Float}
use Rattle.complex.specs.declared.Complex.{Complex}
use Rattle.layout.specs.declared.Layout.{Layout}
use Rattle.layout.specs.Numbers.{all_pass_of, short_delay_of}
use Rattle.planar.specs.Rings.{long_past, short_past, plain_of}
use Rattle.ps_decorr_allpass.specs.Memory.{lane_of, channel_of}
use Rattle.standard.specs.Channel.{Channel}

-- a channel that is a plain delay
abbrev pub delay_of : List Complex → Channel
delay_of past = record { past = past; first = []; second = []; third = [] }

-- the channel k that the memory holds after t slots
unfoldable pub channel_in : Layout → ℕ → List Float → List Float → ℕ → Channel
channel_in l t delays plain k =
    cond (ltb k (all_pass_of l)) (channel_of t (lane_of delays k))
    (cond (ltb k (short_delay_of l)) (delay_of (long_past t plain (k - all_pass_of l))) (delay_of (short_past plain (k - short_delay_of l))))

-- the memory that holds the channels behind the all-pass ones
unfoldable pub plain_with : Layout → ℕ → (ℕ → Channel) → List Float
plain_with l t channel = plain_of t (λ j. (channel (all_pass_of l + j)).past) (λ j. (channel (short_delay_of l + j)).past)
