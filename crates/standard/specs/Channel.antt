-- §8.6.4.5.2: the de-correlation of one hybrid channel, before the ducking. A memory is a history, newest first; before a reset there was silence.
-- Assumes nothing.
use Rattle.std.specs.Prelude.{ℕ, zero, suc, ◌-◌, Bool, cond, List, [], ◌∷◌, leb, ltb, ℤ, Float, get_or}
use Rattle.std.specs.Float.Ieee.{lt}
use Rattle.complex.specs.declared.Complex.{Complex}
use Rattle.complex.specs.Operations.{product, sum, difference, scaled}
use Rattle.decimals.specs.Decorrelation.{all_pass, decay_slope}
use Rattle.layout.specs.declared.Layout.{Layout}
use Rattle.layout.specs.declared.Layout.TheVariants.{Bands20, Bands34}
use Rattle.layout.specs.Numbers.{all_pass_of, short_delay_of, decay_cutoff_of}
use Rattle.rotation_table.specs.Values.{rotation20, rotation34}
use Rattle.rotation_table.specs.Rotations.{fractional_delay, link_rotation}
use Rattle.standard.specs.declared.Link.{Link}
use Rattle.standard.specs.declared.Chain.{Chain}
use Rattle.standard.specs.Numbers as numbers
use Rattle.standard.specs.Numbers.{one, whole, nought, ◌⊖◌, ◌⊗◌}

-- ---- constants

abbrev pub rotations_of : Layout → List ℤ
rotations_of Bands20 = rotation20
rotations_of Bands34 = rotation34

-- not below 0
abbrev at_least_zero : Float → Float
at_least_zero x = cond (lt x numbers.zero) numbers.zero x

-- g(k): 1 up to DECAY_CUTOFF, and from there on 1 - DECAY_SLOPE (k - DECAY_CUTOFF), at least 0
unfoldable pub decay : Layout → ℕ → Float
decay l k =
    cond (leb k (decay_cutoff_of l)) one
    (at_least_zero (one ⊖ decay_slope ⊗ whole (k - decay_cutoff_of l)))

-- Q(k, m), and a(m) g(k)
abbrev link_from : List ℤ → Layout → ℕ → ℕ → Link
link_from table l k m = record { rotation = link_rotation table k m; feedback = get_or all_pass m numbers.zero ⊗ decay l k }

-- φ_fract(k), and the three links, from a table of rotations
unfoldable pub chain_from : List ℤ → Layout → ℕ → Chain
chain_from table l k =
    record { fractional = fractional_delay table k; first = link_from table l k 0; second = link_from table l k 1; third = link_from table l k 2 }

abbrev pub chain_of : Layout → ℕ → Chain
chain_of l k = chain_from (rotations_of l) l k

-- ---- a channel

-- what came in, and w of each of the three links
pub record Channel : Type 0 where
  pub past : List Complex
  pub first : List Complex
  pub second : List Complex
  pub third : List Complex

abbrev pub silent : Channel
silent = record { past = []; first = []; second = []; third = [] }

-- what a history has from i + 1 slots ago
abbrev pub back : ℕ → List Complex → Complex
back i history = get_or history i nought

-- w[n] = u[n] + a g Q w[n - d]
unfoldable pub link_state : Complex → Link → Complex → Complex
link_state u link delayed = sum u (scaled (product link.rotation delayed) link.feedback)

-- v[n] = Q w[n - d] - a g w[n]
unfoldable pub link_output : Complex → Link → Complex → Complex
link_output u link delayed = difference (product link.rotation delayed) (scaled (link_state u link delayed) link.feedback)

-- z^-2 and φ_fract, then the links, whose delays d(m) are 3, 4 and 5 slots (Table 8.39)
module _ (chain : Chain) (c : Channel) where
  unfoldable pub rotated : Complex
  rotated = product chain.fractional (back 1 c.past)

  unfoldable pub first_output : Complex
  first_output = link_output rotated chain.first (back 2 c.first)

  unfoldable pub second_output : Complex
  second_output = link_output first_output chain.second (back 3 c.second)

  unfoldable pub third_output : Complex
  third_output = link_output second_output chain.third (back 4 c.third)

  -- one slot later, x having come in
  unfoldable pub channel_after : Complex → Channel
  channel_after x =
      record {
        past = x ∷ c.past;
        first = link_state rotated chain.first (back 2 c.first) ∷ c.first;
        second = link_state first_output chain.second (back 3 c.second) ∷ c.second;
        third = link_state second_output chain.third (back 4 c.third) ∷ c.third;
      }

-- after n slots of a signal
unfoldable pub channel_at : Chain → Channel → (ℕ → Complex) → ℕ → Channel
channel_at chain c x zero = c
channel_at chain c x (suc n) = channel_after chain (channel_at chain c x n) (x n)

-- what came in, after n slots
unfoldable pub past_at : List Complex → (ℕ → Complex) → ℕ → List Complex
past_at past x zero = past
past_at past x (suc n) = x n ∷ past_at past x n

-- the first channels have an all-pass chain, those after them a delay of 14 slots, the last ones of one slot
unfoldable pub channel_output : Layout → ℕ → Channel → Complex
channel_output l k c = cond (ltb k (all_pass_of l)) (third_output (chain_of l k) c) (cond (ltb k (short_delay_of l)) (back 13 c.past) (back 0 c.past))
