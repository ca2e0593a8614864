-- A list whose front is made of runs of one width: each run, what lies behind them, and the length. Assumes nothing.
use mathlib.Core.Path.{◌≡◌, sym, ap, ◌∙◌}
use mathlib.Core.List.{List, ◌++◌}
use Prim.Native.Nat.{ℕ, suc, ◌+◌, ◌*◌, ◌<◌, ◌≤◌}
use native.Mathlib.Nat.{mul_comm, mul-le-mul_right}
use native.Mathlib.Omega.{arith}
use lib.ListN.{length, take, drop, length-append, length-drop, take-append-drop}
use lib.Seq.{drop_at}
use Rattle.lists.specs.Part.{part}
use Rattle.lists.specs.Rows.{rows}
use Rattle.lists.proofs.Parts.{part_front}
use Rattle.lists.proofs.Rows.{rows_same, rows_length, rows_part, rows_cut}

-- a run ends where the next begins
pub run_inside : (w b n : ℕ) → b < n → w * b + w ≤ w * n
run_inside w b n u = omega (arith, mul-le-mul_right {m = suc b} {n = n} w u)

module _ {A : Type 0} where
  -- any list is made of its runs and what lies behind them
  pub runs_cut : (w n : ℕ) (xs : List A) → xs ≡ rows (λ b. part (w * b) w xs) n ++ drop (w * n) xs
  runs_cut w n xs =
      sym (take-append-drop (w * n) xs)
      ∙ ap (λ (p : List A). p ++ drop (w * n) xs)
      (ap (λ (m : ℕ). take m xs) (mul_comm w n)
      ∙ sym (rows_cut w n xs)
      ∙ rows_same (λ b. part (b * w) w xs) (λ b. part (w * b) w xs) n (λ b u. ap (λ (m : ℕ). part m w xs) (mul_comm b w)))

  module _ (f : ℕ → List A) (w n : ℕ) (each : (b : ℕ) → b < n → length (f b) ≡ w) where
    front_length : length (rows f n) ≡ w * n
    front_length = rows_length f w n each ∙ mul_comm n w

    pub run_at : (b : ℕ) → b < n → part (w * b) w (rows f n) ≡ f b
    run_at b u = ap (λ (m : ℕ). part m w (rows f n)) (mul_comm w b) ∙ rows_part f w n each b u

    pub runs_part : (rest : List A) (b : ℕ) → b < n → part (w * b) w (rows f n ++ rest) ≡ f b
    runs_part rest b u = part_front (w * b) w (rows f n) rest (rw front_length (run_inside w b n u)) ∙ run_at b u

    pub runs_drop : (rest : List A) → drop (w * n) (rows f n ++ rest) ≡ rest
    runs_drop rest = drop_at (rows f n) rest (w * n) front_length

    pub runs_length : (d : List A) → w * n ≤ length d → length (rows f n ++ drop (w * n) d) ≡ length d
    runs_length d h = simp (length-append, front_length, length-drop) (omega arith)
