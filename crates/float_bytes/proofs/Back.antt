-- Written and read again: the same floats. Read and written again: the same bytes, off the NaN patterns. Assumes nothing.
use mathlib.Core.Path.{◌≡◌, refl, sym, ap, ◌∙◌, subst}
use mathlib.Core.List.{List, [], ◌∷◌, ◌++◌}
use mathlib.Core.Bool.{Bool, not}
use Prim.Native.Nat.{ℕ, zero, suc, ◌+◌, ◌*◌, ◌<◌, ◌≤◌}
use native.Mathlib.Omega.{arith}
use lib.Dec.{T}
use lib.ListN.{length, get_or, drop, length-drop}
use lib.Seq.{get_or-drop}
use lib.Ieee.{Float, binary64, fits, nan_bits, of_bits, to_bits}
use lib.Ieee.Bits.{of_bits-to_bits, to_bits-lt, to_bits-of_bits, nan_bits_is}
use Rattle.float_bytes.specs.Bytes.{word, four, eight, floats_of, bytes_of}
use Rattle.float_bytes.proofs.Numbers.{word_eight, word_small, eight_word}

-- every float of a row is an f64
pub data Doubles : List Float → Type 0 where
  none : Doubles []
  more : {x : Float} {xs : List Float} → T (fits binary64 x) → Doubles xs → Doubles (x ∷ xs)

pub floats_back : {xs : List Float} → Doubles xs → floats_of (length xs) (bytes_of xs) ≡ xs
unfolding floats_of bytes_of eight four
floats_back none = refl
floats_back (more {x} {xs} t d) =
    let n = to_bits binary64 x in
    ap (λ (m : ℕ). of_bits binary64 m ∷ floats_of (length xs) (bytes_of xs)) (word_eight n (bytes_of xs) (to_bits-lt binary64 x t))
    ∙ ap (λ (y : Float). y ∷ floats_of (length xs) (bytes_of xs)) (of_bits-to_bits binary64 x t)
    ∙ ap (λ (ys : List Float). x ∷ ys) (floats_back d)

-- none of the first k eights of a row of bytes is a NaN's pattern
abbrev pub Numbers : ℕ → List ℕ → Type 0
Numbers zero b = Unit {0}
Numbers (suc k) b = T (not (nan_bits binary64 (word b))) × Numbers k (drop 8 b)

pub bytes_back : (k : ℕ) (b : List ℕ) → length b ≡ k * 8 → ((j : ℕ) → get_or b j 0 < 256) → Numbers k b → bytes_of (floats_of k b) ≡ b
unfolding floats_of bytes_of
bytes_back zero [] h bytes c = refl
bytes_back zero (x ∷ b) h bytes c = absurd (omega (arith, h))
bytes_back (suc k) b h bytes c =
    let l : 8 ≤ length b = omega (arith, h) in
    let m : length (drop 8 b) ≡ k * 8 = omega (arith, h, length-drop 8 b) in
    let bytes' : (j : ℕ) → get_or (drop 8 b) j 0 < 256 = λ j. subst (λ (n : ℕ). n < 256) (sym (get_or-drop 8 b j 0)) (bytes (8 + j)) in
    ap (λ (n : ℕ). eight n ++ bytes_of (floats_of k (drop 8 b)))
    (to_bits-of_bits binary64 (word b) (word_small b l bytes) (subst (λ (t : Bool). T (not t)) (nan_bits_is binary64 (word b)) c.0))
    ∙ ap (λ (t : List ℕ). eight (word b) ++ t) (bytes_back k (drop 8 b) m bytes' c.1)
    ∙ eight_word b l bytes
