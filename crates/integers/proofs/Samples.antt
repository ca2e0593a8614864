-- The definitions at the ends of their ranges: each row of the table computes to the number beside it. Assumes nothing.
use mathlib.Core.Path.{◌≡◌, refl}
use mathlib.Core.List.{List, [], ◌∷◌, map}
use lib.IntN.{ℤ, pos, negsuc}
use Rattle.integers.specs.Integers.{byte_z, clamp_z, wrap_z, to_zero}

-- what is computed, and what it is. (`negsuc n` is -(n + 1).)
table : List (ℤ × ℤ)
table =
    (byte_z 0, pos 0)
    ∷ (byte_z 127, pos 127)
    ∷ (byte_z 128, negsuc 127)
    ∷ (byte_z 255, negsuc 0)
    ∷ (clamp_z (negsuc 6) (pos 7) (negsuc 7), negsuc 6)
    ∷ (clamp_z (negsuc 6) (pos 7) (negsuc 6), negsuc 6)
    ∷ (clamp_z (negsuc 6) (pos 7) (pos 7), pos 7)
    ∷ (clamp_z (negsuc 6) (pos 7) (pos 8), pos 7)
    ∷ (wrap_z (pos 7), pos 7)
    ∷ (wrap_z (pos 8), pos 0)
    ∷ (wrap_z (negsuc 0), pos 7)
    ∷ (wrap_z (negsuc 7), pos 0)
    ∷ (wrap_z (negsuc 8), pos 7)
    ∷ (to_zero (pos 0) 2, pos 0)
    ∷ (to_zero (negsuc 0) 2, pos 0)
    ∷ (to_zero (negsuc 0) 3, pos 0)
    ∷ (to_zero (negsuc 0) 4, pos 0)
    ∷ (to_zero (pos 3) 2, pos 1)
    ∷ (to_zero (negsuc 1) 2, negsuc 0)
    ∷ (to_zero (negsuc 2) 2, negsuc 0)
    ∷ (to_zero (negsuc 4) 3, negsuc 0)
    ∷ (to_zero (negsuc 6) 4, negsuc 0)
    ∷ (to_zero (pos 30) 2, pos 15)
    ∷ (to_zero (negsuc 29) 2, negsuc 14)
    ∷ (to_zero (pos 45) 3, pos 15)
    ∷ (to_zero (negsuc 44) 3, negsuc 14)
    ∷ (to_zero (pos 60) 4, pos 15)
    ∷ (to_zero (negsuc 59) 4, negsuc 14)
    ∷ []

samples : map (λ r. r.0) table ≡ map (λ r. r.1) table
unfolding table
samples = refl
