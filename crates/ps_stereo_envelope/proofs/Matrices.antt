-- The two cases of a band's coefficients, and its four phase indices. Assumes nothing.
use mathlib.Core.Path.{◌≡◌, refl, sym, ap, ◌∙◌}
use mathlib.Core.Bool.{true, false}
use mathlib.Core.List.{List}
use Prim.Native.Nat.{ℕ, ◌+◌}
use native.Mathlib.Omega.{arith}
use lib.IntN.{ℤ, pos}
use lib.ListN.{length, get_or}
use Rattle.complex.specs.declared.Complex.{Complex}
use Rattle.complex.specs.Operations.{product, conjugate}
use Rattle.lists.specs.Part.{part}
use Rattle.lists.specs.Rows.{rows, tabulate}
use Rattle.lists.proofs.Maps.{copied}
use Rattle.lists.proofs.Parts.{part_at}
use Rattle.planar.specs.Frame.{ipd_of, opd_of, phase_numbers}
use Rattle.standard.specs.declared.Matrix.{Matrix}
use Rattle.standard.specs.declared.Modes.{Modes}
use Rattle.standard.specs.Mixing.{Cue, Kept, unrotated, direction_of, rotated_by, matrix_from}
use Rattle.ps_stereo_envelope.specs.Loops.{before}

module _ (coefficients directions : List ℤ) (modes : Modes) (kept : Kept) (cue : Cue) where
  pub without_phase : modes.phase ≡ false → unrotated coefficients modes cue ≡ matrix_from coefficients directions modes kept cue
  unfolding matrix_from
  without_phase e = rw e

  pub with_phase : modes.phase ≡ true → (h : Matrix) (opd ipd : Complex) → h ≡ unrotated coefficients modes cue
      → opd ≡ direction_of directions kept.opd cue.opd → ipd ≡ direction_of directions kept.ipd cue.ipd
      → rotated_by opd (product opd (conjugate ipd)) h ≡ matrix_from coefficients directions modes kept cue
  unfolding matrix_from
  with_phase e h opd ipd eh eo ei = rw (eh, eo, ei, e)

-- the two indices of a kind, lent, are those of the four
pub in_half : (at : ℕ) (directions phases : List ℤ) (current : ℤ)
    → direction_of directions (before (part at 2 phases)) current ≡ direction_of directions (record { oldest = get_or phases at (pos 0); previous = get_or phases (at + 1) (pos 0) }) current
in_half at directions phases current =
    let one : at + 0 ≡ at = omega arith in
    rw (part_at at 2 phases 0 (pos 0) (omega arith), part_at at 2 phases 1 (pos 0) (omega arith), one)

-- four indices as they stand
pub four_kept : (xs : List ℤ) → length xs ≡ 4 → xs ≡ phase_numbers (ipd_of xs 0) (opd_of xs 0)
unfolding rows
four_kept xs long =
    let all : tabulate (λ i. get_or xs i (pos 0)) 4 ≡ phase_numbers (ipd_of xs 0) (opd_of xs 0) = refl in
    sym (copied xs (pos 0)) ∙ ap (tabulate (λ i. get_or xs i (pos 0))) long ∙ all
