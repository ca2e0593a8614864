-- A window holds its history: what stands d slots back is read at the slot's own place, and a slot is pushed d places further. Assumes nothing.
use mathlib.Core.Path.{◌≡◌, refl, sym, ap, ◌∙◌}
use mathlib.Core.Bool.{Bool, true, false, not}
use mathlib.Core.List.{List, [], ◌∷◌}
use Prim.Native.Nat.{ℕ, suc, ◌+◌, ◌-◌, ◌<◌, ◌≤◌}
use native.Mathlib.Omega.{arith}
use borrow.Author.Tests.{eqb-true, eqb-false}
use lib.Dec.{eqb}
use lib.Ieee.{Float}
use lib.ListN.{length, get_or}
use Rattle.complex.specs.declared.Complex.{Complex}
use Rattle.lists.proofs.Maps.{tabulate_at, tabulate_same}
use Rattle.standard.specs.Numbers.{nought}
use Rattle.standard.specs.Channel.{back}
use Rattle.planar.specs.Cells.{cell, stored, planar}
use Rattle.planar.specs.Window.{image_of, history_of, Window}
use Rattle.planar.proofs.Cells.{stored_same, stored_other, planar_is}

module _ {d apart n : ℕ} {w : List Float} {h : List Complex} (r : Window d apart n w h) where
  -- what stands d slots back
  pub window_read : 0 < d → cell apart w n ≡ back (d - 1) h
  window_read u = r.cells n (omega arith) ∙ ap (λ (j : ℕ). back j h) (omega arith)

  -- one slot more
  pub window_push : (v : Complex) → n + d < apart → length w ≡ apart + apart → Window d apart (n + 1) (stored apart w (n + d) v) (v ∷ h)
  window_push v room long = record { cells = λ i u. at i u (eqb i (n + d)) refl }
    where
      at : (i : ℕ) → i < n + 1 + d → (t : Bool) → eqb i (n + d) ≡ t → cell apart (stored apart w (n + d) v) i ≡ back (n + 1 + d - suc i) (v ∷ h)
      at i u true e =
          let here : i ≡ n + d = eqb-true i (n + d) e in
          let newest : n + 1 + d - suc i ≡ 0 = omega arith in
          rw (newest, here) (stored_same apart w (n + d) v room (omega arith))
      at i u false e =
          let other : i ≡ n + d → ⊥ = eqb-false i (n + d) e in
          let less : i < n + d = omega arith in
          let older : n + 1 + d - suc i ≡ suc (n + d - suc i) = omega arith in
          rw older (stored_other apart w (n + d) v i room (omega arith) other ∙ r.cells i less)

  -- the last d cells are the history's image
  pub window_kept : (i : ℕ) → i < d → cell apart w (n + i) ≡ back (d - suc i) h
  window_kept i u = r.cells (n + i) (omega arith) ∙ ap (λ (j : ℕ). back j h) (omega arith)

-- at a frame's start
pub window_start : (d apart : ℕ) (w : List Float) → Window d apart 0 w (history_of d apart w)
window_start d apart w =
    record {
      cells = λ i u.
          let there : 0 + d - suc i < d = omega arith in
          let same : d - suc (0 + d - suc i) ≡ i = omega arith in
          sym (tabulate_at (λ j. cell apart w (d - suc j)) d (0 + d - suc i) nought there ∙ ap (cell apart w) same);
    }

-- a history moved to another list, as a loaded window
pub history_same : (d apart other : ℕ) (xs ys : List Float) → ((i : ℕ) → i < d → cell apart xs i ≡ cell other ys i) → history_of d apart xs ≡ history_of d other ys
history_same d apart other xs ys loaded = tabulate_same (λ i. cell apart xs (d - suc i)) (λ i. cell other ys (d - suc i)) d (λ i u. loaded (d - suc i) (omega arith))

-- and the last d of them, kept in a run of d
pub window_image : {d apart n : ℕ} {w : List Float} {h : List Complex} → Window d apart n w h → (run : List Float) → length run ≡ d + d
    → ((i : ℕ) → i < d → cell d run i ≡ cell apart w (n + i)) → run ≡ image_of d h
window_image {d} {apart} {n} {w} {h} r run long kept = planar_is d run (λ i. back (d - suc i) h) long (λ i u. kept i u ∙ window_kept r i u)
