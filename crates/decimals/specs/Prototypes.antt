-- Tables 8.37 and 8.38: the prototypes of the hybrid filters, 13 taps each. Assumes nothing.
use Rattle.std.specs.Prelude.{List, [], ◌∷◌, Float}
use Rattle.decimals.specs.Decimal.{plus, minus}
use Rattle.decimals.specs.declared.Prototype.{Prototype}
use Rattle.decimals.specs.declared.Prototype.TheVariants.{EighthsOfBand0, Halves, Twelfths, EighthsOfBand1, Quarters}

-- Table 8.37, g⁰, Q⁰ = 8: QMF band 0 of 20 stereo bands
unfoldable pub g0q8 : List Float
g0q8 =
    plus 746082949812 ∷ plus 2270420949825 ∷ plus 4546865930473 ∷ plus 7266113929591 ∷ plus 9885108575264 ∷
    plus 11793710567217 ∷ plus 12500000000000 ∷ plus 11793710567217 ∷ plus 9885108575264 ∷
    plus 7266113929591 ∷ plus 4546865930473 ∷ plus 2270420949825 ∷ plus 746082949812 ∷ []

-- Table 8.37, g¹ and g², Q = 2: QMF bands 1 and 2 of 20 stereo bands
unfoldable pub g12q2 : List Float
g12q2 =
    plus 0 ∷ plus 1899487526049 ∷ plus 0 ∷ minus 7293139167538 ∷ plus 0 ∷
    plus 30596630545168 ∷ plus 50000000000000 ∷ plus 30596630545168 ∷ plus 0 ∷
    minus 7293139167538 ∷ plus 0 ∷ plus 1899487526049 ∷ plus 0 ∷ []

-- Table 8.38, g⁰, Q⁰ = 12: QMF band 0 of 34 stereo bands
unfoldable pub g0q12 : List Float
g0q12 =
    plus 4081179924692 ∷ plus 3812810994926 ∷ plus 5144908135699 ∷ plus 6399831151592 ∷ plus 7428313801106 ∷
    plus 8100347892914 ∷ plus 8333333333333 ∷ plus 8100347892914 ∷ plus 7428313801106 ∷
    plus 6399831151592 ∷ plus 5144908135699 ∷ plus 3812810994926 ∷ plus 4081179924692 ∷ []

-- Table 8.38, g¹, Q¹ = 8: QMF band 1 of 34 stereo bands
unfoldable pub g1q8 : List Float
g1q8 =
    plus 1565675600122 ∷ plus 3752716391991 ∷ plus 5417891378782 ∷ plus 8417044116767 ∷ plus 10307344158036 ∷
    plus 12222452249753 ∷ plus 12500000000000 ∷ plus 12222452249753 ∷ plus 10307344158036 ∷
    plus 8417044116767 ∷ plus 5417891378782 ∷ plus 3752716391991 ∷ plus 1565675600122 ∷ []

-- Table 8.38, g², g³ and g⁴, Q = 4: QMF bands 2 to 4 of 34 stereo bands
unfoldable pub g234q4 : List Float
g234q4 =
    minus 5908211155639 ∷ minus 4871498374946 ∷ plus 0 ∷ plus 7778723915851 ∷ plus 16486303567403 ∷
    plus 23279856662996 ∷ plus 25000000000000 ∷ plus 23279856662996 ∷ plus 16486303567403 ∷
    plus 7778723915851 ∷ plus 0 ∷ minus 4871498374946 ∷ minus 5908211155639 ∷ []

unfoldable pub prototype_of : Prototype → List Float
prototype_of EighthsOfBand0 = g0q8
prototype_of Halves = g12q2
prototype_of Twelfths = g0q12
prototype_of EighthsOfBand1 = g1q8
prototype_of Quarters = g234q4
