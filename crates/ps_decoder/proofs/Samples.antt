-- The hybrid samples that the analysis leaves are those of the definitions: each channel of a split band has a run of the list, and each channel above is
-- a QMF band of the input. Assumes nothing.
use mathlib.Core.Path.{◌≡◌, refl, ap, ◌∙◌}
use mathlib.Core.Bool.{Bool, true, false, cond}
use mathlib.Core.List.{List}
use Prim.Native.Nat.{ℕ, ◌+◌, ◌-◌, ◌*◌, ◌<◌, ◌≤◌}
use native.Mathlib.Omega.{arith}
use borrow.Author.Tests.{lt-ltb, le-ltb, ltb-true}
use lib.Dec.{ltb}
use lib.Ieee.{Float}
use lib.ListN.{length, drop, length-append}
use Rattle.complex.specs.declared.Complex.{Complex}
use Rattle.layout.specs.declared.Layout.{Layout}
use Rattle.layout.specs.Numbers.{unsplit_from_of}
use Rattle.lists.specs.Part.{part}
use Rattle.lists.specs.Rows.{rows}
use Rattle.lists.proofs.Parts.{part_front}
use Rattle.lists.proofs.Rows.{rows_length, rows_part}
use Rattle.planar.specs.Cells.{cell, planar, overwritten}
use Rattle.planar.specs.Frame.{sample_at, qmf_at, qmf_band_of, sample_in}
use Rattle.planar.proofs.Cells.{planar_at, planar_length}
use Rattle.ps_hybrid_analysis.specs.Analysis.{slot_at, enough, samples_after}
use Rattle.standard.specs.Hybrid.{hybrid}
use Rattle.ps_decoder.proofs.Slots.{slot_in, slot_same}

-- equal slots make equal samples
hybrid_same : (l : Layout) (x y : ℕ → ℕ → Complex) (n k : ℕ) → ((p j : ℕ) → x p j ≡ y p j) → hybrid l x n k ≡ hybrid l y n k
hybrid_same l x y n k same = ap (λ (z : ℕ → ℕ → Complex). hybrid l z n k) (λ i p j. same p j i)

module _ (l : Layout) (history input samples : List Float) (slots : ℕ) where
  -- the run of channel k
  abbrev run_of : ℕ → List Float
  run_of k = planar 32 (overwritten slots (λ n. hybrid l (slot_at l history input) n k) (λ n. sample_at samples n k))

  run_length : (k : ℕ) → length (run_of k) ≡ 64
  run_length k = planar_length 32 (overwritten slots (λ n. hybrid l (slot_at l history input) n k) (λ n. sample_at samples n k))

  runs_length : length (rows run_of (unsplit_from_of l)) ≡ unsplit_from_of l * 64
  runs_length = rows_length run_of 64 (unsplit_from_of l) (λ k u. run_length k)

  module _ (room : enough l history input samples slots ≡ true) where
    pub samples_long : 64 * unsplit_from_of l ≤ length (samples_after l history input samples slots)
    unfolding samples_after
    samples_long = rw room (simp length-append (omega (arith, runs_length)))

    run_at : (k : ℕ) → k < unsplit_from_of l → part (64 * k) 64 (samples_after l history input samples slots) ≡ run_of k
    unfolding samples_after
    run_at k u =
        let place : 64 * k ≡ k * 64 = omega arith in
        rw room
        (part_front (64 * k) 64 (rows run_of (unsplit_from_of l)) (drop (64 * unsplit_from_of l) samples) (omega (arith, runs_length))
        ∙ ap (λ (a : ℕ). part a 64 (rows run_of (unsplit_from_of l))) place
        ∙ rows_part run_of 64 (unsplit_from_of l) (λ j v. run_length j) k u)

    column_same : slots ≤ 32 → (n k : ℕ) → n < slots → k < unsplit_from_of l
        → sample_at (samples_after l history input samples slots) n k ≡ hybrid l (slot_in history input) n k
    column_same few n k h u =
        ap (λ (run : List Float). cell 32 run n) (run_at k u)
        ∙ planar_at 32 (overwritten slots (λ m. hybrid l (slot_at l history input) m k) (λ m. sample_at samples m k)) n (omega arith)
        ∙ ap (λ (t : Bool). cond t (hybrid l (slot_at l history input) n k) (sample_at samples n k)) (lt-ltb n slots h)
        ∙ hybrid_same l (slot_at l history input) (slot_in history input) n k (slot_same history input l)

    pub sample_same : slots ≤ 32 → (n k : ℕ) → n < slots
        → sample_in l (samples_after l history input samples slots) input n k ≡ hybrid l (slot_in history input) n k
    unfolding hybrid
    sample_same few n k h = go (ltb k (unsplit_from_of l)) refl
      where
        go : (t : Bool) → ltb k (unsplit_from_of l) ≡ t
            → cond t (sample_at (samples_after l history input samples slots) n k) (qmf_at input n (qmf_band_of l k)) ≡ hybrid l (slot_in history input) n k
        go true e = column_same few n k h (ltb-true k (unsplit_from_of l) e)
        go false e =
            let here : n + 6 - 6 ≡ n = omega arith in
            rw (e, le-ltb (n + 6) 6 (omega arith), here)
