-- The slots of a QMF band as the analysis reads them from a run of history are those of the definitions, which read the history that the run holds; and
-- the run that it leaves holds what came in. Assumes nothing.
use mathlib.Core.Path.{◌≡◌, refl, sym, ap, ◌∙◌}
use mathlib.Core.Bool.{Bool, true, false, cond}
use mathlib.Core.List.{List, ◌++◌}
use Prim.Native.Nat.{ℕ, zero, suc, ◌+◌, ◌-◌, ◌*◌, ◌<◌, ◌≤◌}
use native.Mathlib.Omega.{arith}
use borrow.Author.Tests.{ltb-true, le-ltb, le-leb}
use lib.Dec.{ltb, leb}
use lib.Ieee.{Float}
use lib.ListN.{length, drop}
use Rattle.complex.specs.declared.Complex.{Complex}
use Rattle.layout.specs.declared.Layout.{Layout}
use Rattle.layout.specs.Numbers.{split_of, unsplit_from_of}
use Rattle.layout.proofs.Bounds.{bounds}
use Rattle.lists.specs.Part.{part}
use Rattle.lists.proofs.Rows.{rows_same}
use Rattle.planar.specs.Cells.{cell, planar}
use Rattle.planar.specs.Frame.{qmf_at}
use Rattle.planar.specs.Window.{image_of, history_of}
use Rattle.planar.proofs.Cells.{planar_same}
use Rattle.planar.proofs.Window.{window_start}
use Rattle.ps_hybrid_analysis.specs.Analysis.{slot_at, enough, history_after}
use Rattle.ps_state.specs.State.{history_with}
use Rattle.standard.specs.Channel.{back, past_at}

-- the analysis has room
pub analysis_room : (l : Layout) (history input samples : List Float) (slots : ℕ) → leb (128 * (slots + 6)) (length input) ≡ true → length history ≡ 60 → length samples ≡ 2048
    → enough l history input samples slots ≡ true
analysis_room l history input samples slots there past_long long =
    let b = bounds l in
    rw (there, le-leb (12 * split_of l) (length history) (omega arith), le-leb (64 * unsplit_from_of l) (length samples) (omega arith))

-- what came in, i slots ago
past_back : (past : List Complex) (x : ℕ → Complex) (n i : ℕ) → i < n → back i (past_at past x n) ≡ x (n - suc i)
unfolding past_at
past_back past x zero i h = absurd (omega arith)
past_back past x (suc n) zero h = ap x (omega arith)
past_back past x (suc n) (suc i) h = past_back past x n i (omega arith) ∙ ap x (omega arith)

module _ (history input : List Float) where
  -- the history of QMF band p, newest first
  abbrev pub past_of : ℕ → List Complex
  past_of p = history_of 6 6 (part (12 * p) 12 history)

  -- QMF band p at j: the last six slots before the frame, then the input's
  abbrev pub slot_in : ℕ → ℕ → Complex
  slot_in p j = cond (ltb j 6) (back (5 - j) (past_of p)) (qmf_at input (j - 6) p)

  -- the history of QMF band p after a frame
  abbrev pub past_after : ℕ → ℕ → List Complex
  past_after slots p = past_at (past_of p) (λ n. qmf_at input n p) slots

  module _ (l : Layout) where
    pub slot_same : (p j : ℕ) → slot_at l history input p j ≡ slot_in p j
    slot_same p j = go (ltb j 6) refl
      where
        go : (t : Bool) → ltb j 6 ≡ t
            → cond t (cell 6 (part (12 * p) 12 history) j) (qmf_at input (j - 6) p) ≡ cond t (back (5 - j) (past_of p)) (qmf_at input (j - 6) p)
        go true e =
            let early : j < 6 = ltb-true j 6 e in
            (window_start 6 6 (part (12 * p) 12 history)).cells j (omega arith) ∙ ap (λ (i : ℕ). back i (past_of p)) (omega arith)
        go false e = refl

    -- a frame has six slots or more
    late_slot : (slots p j : ℕ) → 6 ≤ slots → j < 6 → slot_at l history input p (slots + j) ≡ back (6 - suc j) (past_after slots p)
    late_slot slots p j long h =
        rw (le-ltb (slots + j) 6 (omega arith))
        (sym (past_back (past_of p) (λ n. qmf_at input n p) slots (6 - suc j) (omega arith) ∙ ap (λ (n : ℕ). qmf_at input n p) (omega arith)))

    pub history_same : (samples : List Float) (slots : ℕ) → 6 ≤ slots → enough l history input samples slots ≡ true
        → history_after l history input samples slots ≡ history_with l (past_after slots) history
    unfolding history_after history_with
    history_same samples slots long room =
        rw room
        (ap (λ (runs : List Float). runs ++ drop (12 * split_of l) history)
        (rows_same (λ p. planar 6 (λ j. slot_at l history input p (slots + j))) (λ p. image_of 6 (past_after slots p)) (split_of l)
        (λ p u. planar_same 6 (λ j. slot_at l history input p (slots + j)) (λ j. back (6 - suc j) (past_after slots p)) (λ j w. late_slot slots p j long w))))
