-- A number's bytes, and the number of bytes. Assumes nothing.
use mathlib.Core.Path.{◌≡◌, sym, ap, ◌∙◌, subst}
use mathlib.Core.List.{List, ◌∷◌, ◌++◌, append_assoc}
use Prim.Native.Nat.{ℕ, ◌+◌, ◌*◌, ◌/◌, ◌%◌, ◌≤◌, ◌<◌}
use native.Mathlib.Omega.{arith}
use native.Mathlib.Nat.{add-zero}
use lib.ListN.{length, get_or, drop, length-drop}
use lib.Seq.{get_or-drop, drop-drop, drop-cons}
use Rattle.float_bytes.specs.Bytes.{half, word, four, eight}

pub half_at : (b : List ℕ) (at : ℕ) → half (drop at b) ≡ (get_or b at 0 + 256 * get_or b (at + 1) 0) + 65536 * (get_or b (at + 2) 0 + 256 * get_or b (at + 3) 0)
unfolding half
half_at b at =
    let e : get_or (drop at b) 0 0 ≡ get_or b at 0 = get_or-drop at b 0 0 ∙ ap (λ (n : ℕ). get_or b n 0) (add-zero at) in
    omega (arith, e, get_or-drop at b 1 0, get_or-drop at b 2 0, get_or-drop at b 3 0)

pub word_at : (b : List ℕ) (at : ℕ) → word (drop at b) ≡ half (drop at b) + 4294967296 * half (drop (at + 4) b)
unfolding word
word_at b at = ap (λ (l : List ℕ). half (drop at b) + 4294967296 * half l) (drop-drop 4 at b)

pub half_four : (n : ℕ) (r : List ℕ) → n < 4294967296 → half (four n ++ r) ≡ n
unfolding half four
half_four n r h = omega arith

pub word_eight : (n : ℕ) (r : List ℕ) → n < 18446744073709551616 → word (eight n ++ r) ≡ n
unfolding word eight four
word_eight n r h =
    let a = half_four (n % 4294967296) (four (n / 4294967296) ++ r) (omega arith) in
    let b = half_four (n / 4294967296) r (omega arith) in
    omega (arith, a, b)

module _ (b : List ℕ) (long : 4 ≤ length b) (bytes : (j : ℕ) → get_or b j 0 < 256) where
  apart : b ≡ get_or b 0 0 ∷ get_or b 1 0 ∷ get_or b 2 0 ∷ get_or b 3 0 ∷ drop 4 b
  apart =
      let p = get_or b 0 0 in
      let q = get_or b 1 0 in
      let r = get_or b 2 0 in
      drop-cons b 0 0 (omega arith) ∙ ap (λ (t : List ℕ). p ∷ t) (drop-cons b 1 0 (omega arith) ∙ ap (λ (t : List ℕ). q ∷ t) (drop-cons b 2 0 (omega arith) ∙ ap (λ (t : List ℕ). r ∷ t) (drop-cons b 3 0 (omega arith))))

  pub half_small : half b < 4294967296
  unfolding half
  half_small = omega (arith, bytes 0, bytes 1, bytes 2, bytes 3)

  pub four_half : four (half b) ++ drop 4 b ≡ b
  unfolding half four
  four_half =
      let n = half b in
      let s = get_or b 3 0 in
      let d1 : n / 256 ≡ get_or b 1 0 + 256 * (get_or b 2 0 + 256 * s) = omega (arith, bytes 0) in
      let d2 : n / 256 / 256 ≡ get_or b 2 0 + 256 * s = ap (λ (m : ℕ). m / 256) d1 ∙ omega (arith, bytes 1) in
      let d3 : n / 256 / 256 / 256 ≡ s = ap (λ (m : ℕ). m / 256) d2 ∙ omega (arith, bytes 2) in
      let e0 : n % 256 ≡ get_or b 0 0 = omega (arith, bytes 0) in
      let e1 : n / 256 % 256 ≡ get_or b 1 0 = ap (λ (m : ℕ). m % 256) d1 ∙ omega (arith, bytes 1) in
      let e2 : n / 256 / 256 % 256 ≡ get_or b 2 0 = ap (λ (m : ℕ). m % 256) d2 ∙ omega (arith, bytes 2) in
      let e3 : n / 256 / 256 / 256 % 256 ≡ s = ap (λ (m : ℕ). m % 256) d3 ∙ omega (arith, bytes 3) in
      rw (e0, e1, e2, e3) (sym apart)

pub eight_word : (b : List ℕ) → 8 ≤ length b → ((j : ℕ) → get_or b j 0 < 256) → eight (word b) ++ drop 8 b ≡ b
unfolding word eight
eight_word b long bytes =
    let l : 4 ≤ length (drop 4 b) = omega (arith, length-drop 4 b) in
    let bytes' : (j : ℕ) → get_or (drop 4 b) j 0 < 256 = λ j. subst (λ (n : ℕ). n < 256) (sym (get_or-drop 4 b j 0)) (bytes (4 + j)) in
    let s = half_small b (omega arith) bytes in
    let lo : word b % 4294967296 ≡ half b = omega (arith, s) in
    let hi : word b / 4294967296 ≡ half (drop 4 b) = omega (arith, s) in
    ap (λ (n : ℕ). four n ++ four (word b / 4294967296) ++ drop 8 b) lo
    ∙ ap (λ (n : ℕ). four (half b) ++ four n ++ drop 8 b) hi
    ∙ append_assoc (four (half b)) (four (half (drop 4 b))) (drop 8 b)
    ∙ ap (λ (t : List ℕ). four (half b) ++ (four (half (drop 4 b)) ++ t)) (sym (drop-drop 4 4 b))
    ∙ ap (λ (t : List ℕ). four (half b) ++ t) (four_half (drop 4 b) l bytes')
    ∙ four_half b (omega arith) bytes

pub word_small : (b : List ℕ) → 8 ≤ length b → ((j : ℕ) → get_or b j 0 < 256) → word b < 18446744073709551616
unfolding word
word_small b long bytes =
    let bytes' : (j : ℕ) → get_or (drop 4 b) j 0 < 256 = λ j. subst (λ (n : ℕ). n < 256) (sym (get_or-drop 4 b j 0)) (bytes (4 + j)) in
    omega (arith, half_small b (omega arith) bytes, half_small (drop 4 b) (omega (arith, length-drop 4 b)) bytes')
