-- `ps_allpass_channels::desks::enter_four` meets its contract: eight numbers side by side are four real parts, then four imaginary parts. Assumes nothing.
use mathlib.Core.Path.{◌≡◌, refl, ap}
use mathlib.Core.Bool.{Bool, true, false, cond}
use mathlib.Core.List.{List}
use Prim.Native.Nat.{ℕ, ◌+◌, ◌-◌, ◌*◌, ◌/◌, ◌%◌, ◌≤◌, ◌<◌}
use native.Mathlib.Omega.{arith}
use borrow.Author.Tests.{eqb-true, eqb-false}
use lib.Dec.{eqb}
use lib.Ieee.{Float, nan}
use lib.ListN.{length, get_or, set}
use Rattle.planar.specs.Cells.{cell}
use Rattle.ps_allpass_channels.specs.DeskNumbers.{sample_number, Put}
use Rattle.ps_allpass_channels.proofs.DeskRuns.{Run, run_none, run_more, run_put}
use Rattle.ps_allpass_channels.proofs.desks.enter_four.Goals as goal

module _ (step apart : ℕ) (xs : List Float) (from g : ℕ) where
  -- the real parts of four numbers, then their imaginary parts
  abbrev lane_number : ℕ → Float
  lane_number i = get_or xs (from + step * (i % 4) + apart * (i / 4)) nan

  abbrev sample_of : ℕ → ℕ → Float
  sample_of k = sample_number (cell apart xs (from + step * (k - 4 * g)))

  lane : (i j : ℕ) → i < 4 → 27 ≤ j → j < 29 → (t : Bool) → eqb j 27 ≡ t
      → lane_number (i + 4 * (j - 27)) ≡ cond t (cell apart xs (from + step * (4 * g + i - 4 * g))).re (cell apart xs (from + step * (4 * g + i - 4 * g))).im
  lane i j u lo hi true e =
      let first : j ≡ 27 = eqb-true j 27 e in
      let own : (i + 4 * (j - 27)) % 4 ≡ i = omega (arith, first) in
      let part : (i + 4 * (j - 27)) / 4 ≡ 0 = omega (arith, first) in
      let back : 4 * g + i - 4 * g ≡ i = omega arith in
      rw (own, part, back) (ap (λ (p : ℕ). get_or xs p nan) (omega arith))
  lane i j u lo hi false e =
      let second : j ≡ 28 = omega (arith, eqb-false j 27 e) in
      let own : (i + 4 * (j - 27)) % 4 ≡ i = omega (arith, second) in
      let part : (i + 4 * (j - 27)) / 4 ≡ 1 = omega (arith, second) in
      let back : 4 * g + i - 4 * g ≡ i = omega arith in
      rw (own, part, back) (ap (λ (p : ℕ). get_or xs p nan) (omega arith))

  laid : {old new : List Float} → Run (136 * g + 108) 8 lane_number old new → Put (4 * g) (4 * g + 4) 27 (λ j. j < 29) sample_of old new
  laid r = run_put g 27 2 r (omega arith) (λ i j u lo hi. lane i j u lo hi (eqb j 27) refl)

  written : (desks : List Float) → g < 13 → length desks ≡ 1768
      → Run (136 * g + 108) 8 lane_number desks
      (set (set (set (set (set (set (set (set desks
      (136 * g + 108) (get_or xs from nan))
      (136 * g + 108 + 1) (get_or xs (from + step) nan))
      (136 * g + 108 + 2) (get_or xs (from + 2 * step) nan))
      (136 * g + 108 + 3) (get_or xs (from + 3 * step) nan))
      (136 * g + 108 + 4) (get_or xs (from + apart) nan))
      (136 * g + 108 + 5) (get_or xs (from + step + apart) nan))
      (136 * g + 108 + 6) (get_or xs (from + 2 * step + apart) nan))
      (136 * g + 108 + 7) (get_or xs (from + 3 * step + apart) nan))
  written desks few whole =
      let at = 136 * g + 108 in
      run_more 7 (at + 7) (get_or xs (from + 3 * step + apart) nan) (omega arith) (omega (arith, whole)) (ap (λ (p : ℕ). get_or xs p nan) (omega arith))
      (run_more 6 (at + 6) (get_or xs (from + 2 * step + apart) nan) (omega arith) (omega (arith, whole)) (ap (λ (p : ℕ). get_or xs p nan) (omega arith))
      (run_more 5 (at + 5) (get_or xs (from + step + apart) nan) (omega arith) (omega (arith, whole)) (ap (λ (p : ℕ). get_or xs p nan) (omega arith))
      (run_more 4 (at + 4) (get_or xs (from + apart) nan) (omega arith) (omega (arith, whole)) (ap (λ (p : ℕ). get_or xs p nan) (omega arith))
      (run_more 3 (at + 3) (get_or xs (from + 3 * step) nan) (omega arith) (omega (arith, whole)) (ap (λ (p : ℕ). get_or xs p nan) (omega arith))
      (run_more 2 (at + 2) (get_or xs (from + 2 * step) nan) (omega arith) (omega (arith, whole)) (ap (λ (p : ℕ). get_or xs p nan) (omega arith))
      (run_more 1 (at + 1) (get_or xs (from + step) nan) (omega arith) (omega (arith, whole)) (ap (λ (p : ℕ). get_or xs p nan) (omega arith))
      (run_more 0 at (get_or xs from nan) (omega arith) (omega (arith, whole)) (ap (λ (p : ℕ). get_or xs p nan) (omega arith))
      (run_none at lane_number desks))))))))

pub returns : goal.returns
returns g c =
    let a = c.args in
    laid g.row.STEP g.row.APART a.xs.now a.from a.g (written g.row.STEP g.row.APART a.xs.now a.from a.g a.desks.now c.requires.1 (omega arith))
