-- What was written reads back: a slot of the four runs of a band's coefficients. Assumes nothing.
use mathlib.Core.Path.{◌≡◌, ap, ◌∙◌}
use mathlib.Core.List.{List, ◌++◌}
use Prim.Native.Nat.{ℕ, ◌+◌, ◌-◌, ◌<◌}
use native.Mathlib.Omega.{arith}
use lib.Ieee.{Float}
use lib.ListN.{length}
use lib.Seq.{take_at, take_all}
use Rattle.lists.specs.Part.{part}
use Rattle.lists.proofs.Parts.{part_back}
use Rattle.planar.specs.Cells.{cell, planar}
use Rattle.planar.specs.Frame.{matrix_at, matrix_runs}
use Rattle.planar.proofs.Cells.{planar_at, planar_length}
use Rattle.standard.specs.declared.Matrix.{Matrix}
use Rattle.ps_stereo_slots.proofs.Runs.{by_coefficients}

module _ (p q : List Float) (long : length p ≡ 64) where
  run_first : part 0 64 (p ++ q) ≡ p
  run_first = take_at p q 64 long

  run_behind : (b : ℕ) → part (64 + b) 64 (p ++ q) ≡ part b 64 q
  run_behind b =
      let back : 64 + b - length p ≡ b = omega arith in
      part_back (64 + b) 64 p q (omega arith) ∙ ap (λ (m : ℕ). part m 64 q) back

run_alone : (p : List Float) → length p ≡ 64 → part 0 64 p ≡ p
run_alone p long = take_all 64 p (omega arith)

module _ (h : ℕ → Matrix) where
  abbrev one : List Float
  one = planar 32 (λ n. (h n).h11)

  abbrev two : List Float
  two = planar 32 (λ n. (h n).h12)

  abbrev three : List Float
  three = planar 32 (λ n. (h n).h21)

  abbrev four : List Float
  four = planar 32 (λ n. (h n).h22)

  second_run : part 64 64 (matrix_runs h) ≡ two
  second_run = run_behind one (two ++ (three ++ four)) (planar_length 32 (λ n. (h n).h11)) 0 ∙ run_first two (three ++ four) (planar_length 32 (λ n. (h n).h12))

  third_run : part 128 64 (matrix_runs h) ≡ three
  third_run =
      run_behind one (two ++ (three ++ four)) (planar_length 32 (λ n. (h n).h11)) 64
      ∙ run_behind two (three ++ four) (planar_length 32 (λ n. (h n).h12)) 0
      ∙ run_first three four (planar_length 32 (λ n. (h n).h21))

  fourth_run : part 192 64 (matrix_runs h) ≡ four
  fourth_run =
      run_behind one (two ++ (three ++ four)) (planar_length 32 (λ n. (h n).h11)) 128
      ∙ run_behind two (three ++ four) (planar_length 32 (λ n. (h n).h12)) 64
      ∙ run_behind three four (planar_length 32 (λ n. (h n).h21)) 0
      ∙ run_alone four (planar_length 32 (λ n. (h n).h22))

  pub matrix_read : (n : ℕ) → n < 32 → matrix_at (matrix_runs h) n ≡ h n
  matrix_read n u =
      by_coefficients
      (ap (λ (t : List Float). cell 32 t n) (run_first one (two ++ (three ++ four)) (planar_length 32 (λ n. (h n).h11))) ∙ planar_at 32 (λ n. (h n).h11) n u)
      (ap (λ (t : List Float). cell 32 t n) second_run ∙ planar_at 32 (λ n. (h n).h12) n u)
      (ap (λ (t : List Float). cell 32 t n) third_run ∙ planar_at 32 (λ n. (h n).h21) n u)
      (ap (λ (t : List Float). cell 32 t n) fourth_run ∙ planar_at 32 (λ n. (h n).h22) n u)
