-- Coefficients in four runs: a store in one slot gives that slot's coefficients and leaves the others, and the runs are told by their slots.
-- Assumes nothing.
use mathlib.Core.Path.{◌≡◌, sym, ap, ap₂, ◌∙◌}
use mathlib.Core.Logic.{◌≢◌}
use mathlib.Core.List.{List, ◌++◌}
use Prim.Native.Nat.{ℕ, ◌+◌, ◌*◌, ◌<◌, ◌≤◌}
use native.Mathlib.Omega.{arith}
use lib.Ieee.{Float, nan}
use lib.ListN.{length, drop, get_or, set, length-set, take-append-drop}
use lib.Seq.{get_or-set_same, get_or-set_other, drop-drop}
use Rattle.complex.specs.declared.Complex.{Complex}
use Rattle.lists.specs.Part.{part}
use Rattle.lists.proofs.Parts.{part_at, part_length, tail_lent}
use Rattle.planar.specs.Cells.{cell, stored, planar}
use Rattle.planar.specs.Frame.{matrix_at, matrix_runs}
use Rattle.planar.proofs.Cells.{by_parts, planar_is}
use Rattle.standard.specs.declared.Matrix.{Matrix}
use Rattle.ps_stereo_slots.specs.Regions.{stored_matrix}

pub by_coefficients : {x y : Matrix} → x.h11 ≡ y.h11 → x.h12 ≡ y.h12 → x.h21 ≡ y.h21 → x.h22 ≡ y.h22 → x ≡ y
by_coefficients a b c d = λ i. record { h11 = a i; h12 = b i; h21 = c i; h22 = d i }

-- ---- one store
module _ (xs : List Float) (i : ℕ) (v : Complex) where
  here : i + 32 < length xs → cell 32 (stored 32 xs i v) i ≡ v
  here room =
      by_parts
      (get_or-set_other (set xs i v.re) (i + 32) i v.im nan (λ (e : i ≡ i + 32). omega arith) ∙ get_or-set_same xs i v.re nan (omega arith))
      (get_or-set_same (set xs i v.re) (i + 32) v.im nan (simp length-set room))

  apart : (j : ℕ) → j ≢ i → j ≢ i + 32 → j + 32 ≢ i → cell 32 (stored 32 xs i v) j ≡ cell 32 xs j
  apart j a b d =
      by_parts
      (get_or-set_other (set xs i v.re) (i + 32) j v.im nan b ∙ get_or-set_other xs i j v.re nan a)
      (get_or-set_other (set xs i v.re) (i + 32) (j + 32) v.im nan (λ (e : j + 32 ≡ i + 32). a (omega arith)) ∙ get_or-set_other xs i (j + 32) v.re nan d)

-- run r's number j
lent_cell : (xs : List Float) (p j : ℕ) → j < 32 → cell 32 (part p 64 xs) j ≡ cell 32 xs (p + j)
lent_cell xs p j u =
    let e : p + (j + 32) ≡ p + j + 32 = omega arith in
    by_parts (part_at p 64 xs j nan (omega arith)) (part_at p 64 xs (j + 32) nan (omega arith) ∙ ap (λ (k : ℕ). get_or xs k nan) e)

-- ---- the four stores of a slot
module _ (xs : List Float) (n : ℕ) (h : Matrix) (long : length xs ≡ 256) (room : n < 32) where
  abbrev one : List Float
  one = stored 32 xs n h.h11

  abbrev two : List Float
  two = stored 32 one (64 + n) h.h12

  abbrev three : List Float
  three = stored 32 two (128 + n) h.h21

  pub slot_length : length (stored_matrix xs n h) ≡ 256
  slot_length = simp length-set long

  -- a slot of another number is as it was in each run
  other : (r j : ℕ) → j < 32 → j ≢ n → cell 32 (stored_matrix xs n h) (64 * r + j) ≡ cell 32 xs (64 * r + j)
  other r j u ne =
      apart three (192 + n) h.h22 (64 * r + j) (λ e. ne (omega arith)) (λ e. omega arith) (λ e. omega arith)
      ∙ apart two (128 + n) h.h21 (64 * r + j) (λ e. ne (omega arith)) (λ e. omega arith) (λ e. omega arith)
      ∙ apart one (64 + n) h.h12 (64 * r + j) (λ e. ne (omega arith)) (λ e. omega arith) (λ e. omega arith)
      ∙ apart xs n h.h11 (64 * r + j) (λ e. ne (omega arith)) (λ e. omega arith) (λ e. omega arith)

  pub slot_other : (j : ℕ) → j < 32 → j ≢ n → matrix_at (stored_matrix xs n h) j ≡ matrix_at xs j
  slot_other j u ne = by_coefficients (run 0) (run 1) (run 2) (run 3)
    where
      run : (r : ℕ) → cell 32 (part (64 * r) 64 (stored_matrix xs n h)) j ≡ cell 32 (part (64 * r) 64 xs) j
      run r = lent_cell (stored_matrix xs n h) (64 * r) j u ∙ other r j u ne ∙ sym (lent_cell xs (64 * r) j u)

  pub slot_same : matrix_at (stored_matrix xs n h) n ≡ h
  slot_same =
      let first : 0 + n ≡ n = omega arith in
      by_coefficients
      (lent_cell (stored_matrix xs n h) 0 n room
      ∙ ap (cell 32 (stored_matrix xs n h)) first
      ∙ apart three (192 + n) h.h22 n (λ e. omega arith) (λ e. omega arith) (λ e. omega arith)
      ∙ apart two (128 + n) h.h21 n (λ e. omega arith) (λ e. omega arith) (λ e. omega arith)
      ∙ apart one (64 + n) h.h12 n (λ e. omega arith) (λ e. omega arith) (λ e. omega arith)
      ∙ here xs n h.h11 (omega arith))
      (lent_cell (stored_matrix xs n h) 64 n room
      ∙ apart three (192 + n) h.h22 (64 + n) (λ e. omega arith) (λ e. omega arith) (λ e. omega arith)
      ∙ apart two (128 + n) h.h21 (64 + n) (λ e. omega arith) (λ e. omega arith) (λ e. omega arith)
      ∙ here one (64 + n) h.h12 (simp length-set (omega arith)))
      (lent_cell (stored_matrix xs n h) 128 n room
      ∙ apart three (192 + n) h.h22 (128 + n) (λ e. omega arith) (λ e. omega arith) (λ e. omega arith)
      ∙ here two (128 + n) h.h21 (simp length-set (omega arith)))
      (lent_cell (stored_matrix xs n h) 192 n room ∙ here three (192 + n) h.h22 (simp length-set (omega arith)))

-- ---- the runs are told by their slots
pub runs_are : (xs : List Float) (h : ℕ → Matrix) → length xs ≡ 256 → ((n : ℕ) → n < 32 → matrix_at xs n ≡ h n) → xs ≡ matrix_runs h
runs_are xs h long each =
    split
    ∙ ap₂ (λ (a b : List Float). a ++ b) (run 0 (λ (m : Matrix). m.h11) (λ n u. ap (λ (m : Matrix). m.h11) (each n u)) (omega arith))
    (ap₂ (λ (a b : List Float). a ++ b) (run 64 (λ (m : Matrix). m.h12) (λ n u. ap (λ (m : Matrix). m.h12) (each n u)) (omega arith))
    (ap₂ (λ (a b : List Float). a ++ b) (run 128 (λ (m : Matrix). m.h21) (λ n u. ap (λ (m : Matrix). m.h21) (each n u)) (omega arith))
    (run 192 (λ (m : Matrix). m.h22) (λ n u. ap (λ (m : Matrix). m.h22) (each n u)) (omega arith))))
  where
    run : (p : ℕ) (f : Matrix → Complex) → ((n : ℕ) → n < 32 → cell 32 (part p 64 xs) n ≡ f (h n)) → p + 64 ≤ 256 → part p 64 xs ≡ planar 32 (λ n. f (h n))
    run p f e u = planar_is 32 (part p 64 xs) (λ n. f (h n)) (part_length p 64 xs (omega arith)) e

    step : (p : ℕ) → drop p xs ≡ part p 64 xs ++ drop (p + 64) xs
    step p = sym (take-append-drop 64 (drop p xs)) ∙ ap (λ (t : List Float). part p 64 xs ++ t) (drop-drop 64 p xs)

    split : xs ≡ part 0 64 xs ++ (part 64 64 xs ++ (part 128 64 xs ++ part 192 64 xs))
    split =
        step 0
        ∙ ap (λ (t : List Float). part 0 64 xs ++ t)
        (step 64 ∙ ap (λ (t : List Float). part 64 64 xs ++ t) (step 128 ∙ ap (λ (t : List Float). part 128 64 xs ++ t) (sym (tail_lent 192 64 xs (omega arith)))))
