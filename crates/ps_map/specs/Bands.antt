-- Tables 8.48 and 8.49: b(k), the stereo band of each hybrid channel, and the channels marked with *, whose coefficients are conjugated.
-- Assumes nothing.
use Rattle.std.specs.Prelude.{Bool, false, cond, List, ◌∷◌, ◌++◌, ℕ, ltb, replicate, get_or}
use Rattle.layout.specs.declared.Layout.{Layout}
use Rattle.layout.specs.declared.Layout.TheVariants.{Bands20, Bands34}

-- Table 8.48; the channels of QMF bands 0 to 2, then QMF band 3 and on
unfoldable pub bands20 : List ℕ
bands20 =
    1 ∷ 0 ∷ 0 ∷ 1 ∷ 2 ∷ 3 ∷ 4 ∷ 5 ∷ 6 ∷ 7 ∷
    8 ∷ 9 ∷ 10 ∷ 11 ∷ 12 ∷ 13 ∷ 14 ∷ 14 ∷ 15 ∷ 15 ∷ 15 ∷ 16 ∷ 16 ∷ 16 ∷ 16 ∷ 17 ∷ 17 ∷ 17 ∷ 17 ∷ 17 ∷
    (replicate 12 18 ++ replicate 29 19)

-- Table 8.49; the channels of QMF bands 0 to 4, then QMF band 5 and on
unfoldable pub bands34 : List ℕ
bands34 =
    0 ∷ 1 ∷ 2 ∷ 3 ∷ 4 ∷ 5 ∷ 6 ∷ 6 ∷ 7 ∷ 2 ∷ 1 ∷ 0 ∷
    10 ∷ 10 ∷ 4 ∷ 5 ∷ 6 ∷ 7 ∷ 8 ∷ 9 ∷
    10 ∷ 11 ∷ 12 ∷ 9 ∷ 14 ∷ 11 ∷ 12 ∷ 13 ∷ 14 ∷ 15 ∷ 16 ∷ 13 ∷
    16 ∷ 17 ∷ 18 ∷ 19 ∷ 20 ∷ 21 ∷ 22 ∷ 22 ∷ 23 ∷ 23 ∷ 24 ∷ 24 ∷ 25 ∷ 25 ∷ 26 ∷ 26 ∷ 27 ∷ 27 ∷ 27 ∷ 28 ∷ 28 ∷ 28 ∷
    29 ∷ 29 ∷ 29 ∷ 30 ∷ 30 ∷ 30 ∷ 31 ∷ 31 ∷ 31 ∷ 31 ∷ 32 ∷ 32 ∷ 32 ∷ 32 ∷
    replicate 23 33

-- b(k) of a layout in 91 places; a place past its last channel has 0
abbrev pub parameter_map : Layout → List ℕ
parameter_map Bands20 = bands20 ++ replicate 20 0
parameter_map Bands34 = bands34

-- b(k)
abbrev pub band_of : Layout → ℕ → ℕ
band_of l k = get_or (parameter_map l) k 0

-- channels 0, 1 of 71, and 9, 10, 11 of 91
abbrev pub conjugated_of : Layout → ℕ → Bool
conjugated_of Bands20 k = ltb k 2
conjugated_of Bands34 k = cond (ltb k 9) false (ltb k 12)
