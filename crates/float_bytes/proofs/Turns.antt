-- The library's words for bytes against the definitions', and rows of floats and of bytes, eight bytes at a time. Assumes nothing.
use mathlib.Core.Path.{◌≡◌, refl}
use mathlib.Core.List.{List, [], ◌∷◌, ◌++◌, map, append_assoc, append-nil}
use mathlib.Core.Bool.{Bool, true, false, cond}
use Prim.Native.Nat.{ℕ, zero, suc, ◌+◌, ◌/◌, ◌%◌, ◌<◌}
use native.Mathlib.Numerals.{add-one}
use native.Mathlib.Omega.{arith}
use mir.Syntax.{w32, w64}
use lib.Dec.{leb}
use lib.ListN.{length, take, drop, get_or, replicate}
use lib.Seq.{get_or-take, get_or-drop, take-suc}
use lib.Ieee.{Float, nan, binary64, of_bits, to_bits}
use Rattle.std.specs.Int.{from_le_bytes, to_le_bytes}
use Rattle.std.specs.Simd.{first_chunks}
use Rattle.float_bytes.specs.Bytes.{half, word, bytes_at, half_at, word_at, four, eight, floats_of, bytes_of}

pub half_le : (l : List ℕ) → from_le_bytes w32 (take 4 l) ≡ half l
unfolding half
half_le l =
    rw (get_or-take 4 l 0 0 (omega arith), get_or-take 4 l 1 0 (omega arith), get_or-take 4 l 2 0 (omega arith), get_or-take 4 l 3 0 (omega arith)) (omega arith)

pub word_le : (l : List ℕ) → from_le_bytes w64 (take 8 l) ≡ word l
unfolding word half
word_le l =
    rw (
      get_or-take 8 l 0 0 (omega arith),
      get_or-take 8 l 1 0 (omega arith),
      get_or-take 8 l 2 0 (omega arith),
      get_or-take 8 l 3 0 (omega arith),
      get_or-take 8 l 4 0 (omega arith),
      get_or-take 8 l 5 0 (omega arith),
      get_or-take 8 l 6 0 (omega arith),
      get_or-take 8 l 7 0 (omega arith),
    )
    (omega (arith, get_or-drop 4 l 0 0, get_or-drop 4 l 1 0, get_or-drop 4 l 2 0, get_or-drop 4 l 3 0))

pub eight_le : (n : ℕ) → to_le_bytes w64 n ≡ eight n
unfolding eight four
eight_le n =
    let low : ℕ = n % 4294967296 in
    let high : ℕ = n / 4294967296 in
    let e0 : n % 256 ≡ low % 256 = omega arith in
    let e1 : n / 256 % 256 ≡ low / 256 % 256 = omega arith in
    let e2 : n / 65536 % 256 ≡ low / 256 / 256 % 256 = omega arith in
    let e3 : n / 16777216 % 256 ≡ low / 256 / 256 / 256 % 256 = omega arith in
    let e5 : n / 1099511627776 % 256 ≡ high / 256 % 256 = omega arith in
    let e6 : n / 281474976710656 % 256 ≡ high / 256 / 256 % 256 = omega arith in
    let e7 : n / 72057594037927936 % 256 ≡ high / 256 / 256 / 256 % 256 = omega arith in
    rw (e0, e1, e2, e3, e5, e6, e7)

-- ---- of those from a place on, or zeros
pub half_read : (b : List ℕ) (at : ℕ) → from_le_bytes w32 (bytes_at 4 b at) ≡ half_at b at
unfolding half_at
half_read b at = go (leb (at + 4) (length b))
  where
    go : (t : Bool) → from_le_bytes w32 (cond t (take 4 (drop at b)) (replicate 4 0)) ≡ cond t (half (drop at b)) 0
    go true = half_le (drop at b)
    go false = refl

pub word_read : (b : List ℕ) (at : ℕ) → from_le_bytes w64 (bytes_at 8 b at) ≡ word_at b at
unfolding word_at
word_read b at = go (leb (at + 8) (length b))
  where
    go : (t : Bool) → from_le_bytes w64 (cond t (take 8 (drop at b)) (replicate 8 0)) ≡ cond t (word (drop at b)) 0
    go true = word_le (drop at b)
    go false = refl

-- ---- rows
abbrev pub float_in : List ℕ → Float
float_in w = of_bits binary64 (from_le_bytes w64 w)

pub floats_chunks : (k : ℕ) (b : List ℕ) → map float_in (first_chunks 8 k b) ≡ floats_of k b
unfolding floats_of
floats_chunks zero b = refl
floats_chunks (suc k) b = rw (word_le b, floats_chunks k (drop 8 b))

pub bytes_append : (xs ys : List Float) → bytes_of (xs ++ ys) ≡ bytes_of xs ++ bytes_of ys
unfolding bytes_of
bytes_append [] ys = refl
bytes_append (x ∷ xs) ys = rw (bytes_append xs ys, append_assoc)

pub bytes_more : (xs : List Float) (i : ℕ) → i < length xs → bytes_of (take (i + 1) xs) ≡ bytes_of (take i xs) ++ eight (to_bits binary64 (get_or xs i nan))
unfolding bytes_of
bytes_more xs i h =
    rw (add-one, take-suc xs i nan h, bytes_append, append-nil)
