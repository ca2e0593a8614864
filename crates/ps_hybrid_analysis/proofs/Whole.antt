-- A frame that is refused changes nothing; one that is not has every run of the history and every split channel as defined. Assumes nothing.
use mathlib.Core.Path.{◌≡◌}
use mathlib.Core.Bool.{true, false}
use mathlib.Core.List.{List, ◌++◌}
use Prim.Native.Nat.{ℕ, ◌+◌, ◌*◌, ◌≤◌}
use borrow.Author.Tests.{le-leb}
use lib.Ieee.{Float}
use lib.ListN.{length, drop}
use Rattle.answer.specs.declared.Answer.TheVariants.{Done, Buffers}
use Rattle.layout.specs.declared.Layout.{Layout}
use Rattle.layout.specs.Numbers.{split_of, unsplit_from_of}
use Rattle.lists.specs.Rows.{rows}
use Rattle.planar.specs.Cells.{planar}
use Rattle.standard.specs.Hybrid.{hybrid}
use Rattle.ps_hybrid_analysis.specs.Analysis.{slot_at, enough, answer_of, history_after, samples_after}
use Rattle.ps_hybrid_analysis.specs.Stages.{Written}
use Rattle.ps_hybrid_analysis.proofs.Channels.{written_rows}

module _ (l : Layout) (history input samples : List Float) (slots : ℕ) where
  pub refused : enough l history input samples slots ≡ false
      → (Buffers ≡ answer_of l history input samples slots) × ((history ≡ history_after l history input samples slots) × (samples ≡ samples_after l history input samples slots))
  unfolding history_after samples_after
  refused e = (rw e, (rw e, rw e))

  module _ (long : 128 * (slots + 6) ≤ length input) (held : 12 * split_of l ≤ length history) (room : 64 * unsplit_from_of l ≤ length samples) where
    pub done : {kept new : List Float} → kept ≡ rows (λ p. planar 6 (λ j. slot_at l history input p (slots + j))) (split_of l) ++ drop (12 * split_of l) history
        → Written slots 0 (unsplit_from_of l) (λ k n. hybrid l (slot_at l history input) n k) samples new
        → (Done ≡ answer_of l history input samples slots) × ((kept ≡ history_after l history input samples slots) × (new ≡ samples_after l history input samples slots))
    unfolding history_after samples_after
    done r s =
        let e : enough l history input samples slots ≡ true =
        rw (le-leb (128 * (slots + 6)) (length input) long, le-leb (12 * split_of l) (length history) held, le-leb (64 * unsplit_from_of l) (length samples) room) in
        (rw e, (rw e r, rw e (written_rows s room)))
