-- The numbers of the two layouts: §8.6.4.3 for the split bands, §8.6.4.5.1 for the others, Annex 8.A.3 for the reset. Assumes nothing.
use Rattle.std.specs.Prelude.{ℕ, ◌+◌, min, cond, ltb, [], ◌∷◌, get_or}
use Rattle.layout.specs.declared.Kind.{Kind}
use Rattle.layout.specs.declared.Kind.TheVariants.{AllPass, Long, Short}
use Rattle.layout.specs.declared.Layout.{Layout}
use Rattle.layout.specs.declared.Layout.TheVariants.{Bands20, Bands34}

-- NR_PAR_BANDS: stereo bands
abbrev pub bands_of : Layout → ℕ
bands_of Bands20 = 20
bands_of Bands34 = 34

-- NR_BANDS: hybrid channels
abbrev pub channels_of : Layout → ℕ
channels_of Bands20 = 71
channels_of Bands34 = 91

-- QMF bands that are split
abbrev pub split_of : Layout → ℕ
split_of Bands20 = 3
split_of Bands34 = 5

-- the hybrid channel of the first QMF band that is not split
abbrev pub unsplit_from_of : Layout → ℕ
unsplit_from_of Bands20 = 10
unsplit_from_of Bands34 = 32

-- the first hybrid channel of a split band, and that of the band after it
abbrev pub first_channel_of : Layout → ℕ → ℕ
first_channel_of Bands20 p = get_or (0 ∷ 6 ∷ 8 ∷ []) p 10
first_channel_of Bands34 p = get_or (0 ∷ 12 ∷ 20 ∷ 24 ∷ 28 ∷ []) p 32

-- NR_ALLPASS_BANDS
abbrev pub all_pass_of : Layout → ℕ
all_pass_of Bands20 = 30
all_pass_of Bands34 = 50

-- SHORT_DELAY_BAND
abbrev pub short_delay_of : Layout → ℕ
short_delay_of Bands20 = 42
short_delay_of Bands34 = 62

-- groups of four all-pass channels
abbrev pub groups_of : Layout → ℕ
groups_of Bands20 = 8
groups_of Bands34 = 13

-- how channel k is de-correlated: the first ones by an all-pass chain, those after them by a delay of 14 slots, the last ones by one of one slot
abbrev pub kind_of : Layout → ℕ → Kind
kind_of l k = cond (ltb k (all_pass_of l)) AllPass (cond (ltb k (short_delay_of l)) Long Short)

-- DECAY_CUTOFF
abbrev pub decay_cutoff_of : Layout → ℕ
decay_cutoff_of Bands20 = 10
decay_cutoff_of Bands34 = 32

-- what the split adds to a QMF band's number
abbrev pub edge_shift_of : Layout → ℕ
edge_shift_of Bands20 = 7
edge_shift_of Bands34 = 27

-- min(edge + 7, 71) or min(edge + 27, 91), where an edge of 64 and above acts as 64
abbrev pub reset_from_of : Layout → ℕ → ℕ
reset_from_of l edge = min (min edge 64 + edge_shift_of l) (channels_of l)
