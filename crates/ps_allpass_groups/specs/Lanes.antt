-- Four channels side by side, lane by lane: numbers, complex numbers, links and marks. Assumes nothing.
use Rattle.std.specs.Prelude.{ℕ, Bool, false, Option, Some, None, List, [], ◌∷◌, Float, get_or}
use Rattle.std.specs.Float.{nan}
use Rattle.complex.specs.declared.Complex.{Complex}
use Rattle.standard.specs.declared.Link.{Link}
use Rattle.ps_allpass_groups.specs.declared.lanes.Four.{Four}
use Rattle.ps_allpass_groups.specs.declared.lanes.Pair.{Pair}

-- the number, the complex number and the link of a lane, and whether its channel is marked with *
abbrev pub number_of : ℕ → Four → Float
number_of i x = get_or (x.a ∷ x.b ∷ x.c ∷ x.d ∷ []) i nan

abbrev pub lane_of : ℕ → Pair → Complex
lane_of i x = record { re = number_of i x.re; im = number_of i x.im }

abbrev pub link_of : ℕ → Pair → Four → Link
link_of i rotation feedback = record { rotation = lane_of i rotation; feedback = number_of i feedback }

abbrev pub Marks : Type 0
Marks = Option (List Bool)

abbrev pub mark_of : ℕ → Marks → Bool
mark_of i None = false
mark_of i (Some marks) = get_or marks i false

-- lanes 0 to 3
abbrev pub four : (ℕ → Float) → Four
four f = record { a = f 0; b = f 1; c = f 2; d = f 3 }

abbrev pub lanes : (ℕ → Complex) → Pair
lanes f = record { re = four (λ i. (f i).re); im = four (λ i. (f i).im) }

-- and as a list: real parts, then imaginary parts
abbrev pub flat : Pair → List Float
flat x = x.re.a ∷ x.re.b ∷ x.re.c ∷ x.re.d ∷ x.im.a ∷ x.im.b ∷ x.im.c ∷ x.im.d ∷ []
