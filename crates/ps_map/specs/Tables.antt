-- Tables 8.45 and 8.46: where a band's parameter comes from when the number of stereo bands is another. Assumes nothing.
use Rattle.std.specs.Prelude.{List, [], ◌∷◌}
use Rattle.layout.specs.declared.Layout.{Layout}
use Rattle.layout.specs.declared.Layout.TheVariants.{Bands20, Bands34}
use Rattle.ps_map.specs.declared.MapSrc.{MapSrc}
use Rattle.ps_map.specs.declared.MapSrc.TheVariants.{Single, Avg, Avg4, W21, W12}

-- Table 8.45, from 20 to 34
unfoldable pub map20to34 : List MapSrc
map20to34 =
    Single 0 ∷ Avg 0 1 ∷ Single 1 ∷ Single 2 ∷ Avg 2 3 ∷ Single 3 ∷ Single 4 ∷ Single 4 ∷ Single 5 ∷ Single 5 ∷
    Single 6 ∷ Single 7 ∷ Single 8 ∷ Single 8 ∷ Single 9 ∷ Single 9 ∷ Single 10 ∷ Single 11 ∷ Single 12 ∷ Single 13 ∷
    Single 14 ∷ Single 14 ∷ Single 15 ∷ Single 15 ∷ Single 16 ∷ Single 16 ∷ Single 17 ∷ Single 17 ∷ Single 18 ∷ Single 18 ∷
    Single 18 ∷ Single 18 ∷ Single 19 ∷ Single 19 ∷ []

-- Table 8.46, from 34 to 20
unfoldable pub map34to20 : List MapSrc
map34to20 =
    W21 0 1 ∷ W12 1 2 ∷ W21 3 4 ∷ W12 4 5 ∷ Avg 6 7 ∷ Avg 8 9 ∷ Single 10 ∷ Single 11 ∷ Avg 12 13 ∷ Avg 14 15 ∷
    Single 16 ∷ Single 17 ∷ Single 18 ∷ Single 19 ∷ Avg 20 21 ∷ Avg 22 23 ∷ Avg 24 25 ∷ Avg 26 27 ∷ Avg4 28 29 30 31 ∷ Avg 32 33 ∷ []

-- the sources of a layout's bands among those of the other layout
abbrev pub sources_of : Layout → List MapSrc
sources_of Bands20 = map34to20
sources_of Bands34 = map20to34
