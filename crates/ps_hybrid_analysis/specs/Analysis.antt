-- §8.6.4.3: hybrid analysis of a frame. The history: for each split QMF band a run of the last six slots before the frame, the oldest first. The
-- input: rows of 64 complex numbers side by side, the frame's slots and six ahead. Assumes nothing.
use Rattle.std.specs.Prelude.{ℕ, ◌+◌, ◌-◌, ◌*◌, Bool, cond, ◌&&◌, List, ◌++◌, ltb, leb, Float, length, drop}
use Rattle.answer.specs.declared.Answer.{Answer}
use Rattle.answer.specs.declared.Answer.TheVariants.{Done, Buffers}
use Rattle.complex.specs.declared.Complex.{Complex}
use Rattle.layout.specs.declared.Layout.{Layout}
use Rattle.layout.specs.Numbers.{split_of, unsplit_from_of}
use Rattle.lists.specs.Part.{part}
use Rattle.lists.specs.Rows.{rows}
use Rattle.planar.specs.Cells.{cell, planar, overwritten}
use Rattle.planar.specs.Frame.{sample_at}
use Rattle.standard.specs.Hybrid.{hybrid}

module _ (l : Layout) (history input : List Float) where
  -- QMF band p at j: six slots of history, then the frame and the slots ahead
  abbrev pub slot_at : ℕ → ℕ → Complex
  slot_at p j = cond (ltb j 6) (cell 6 (part (12 * p) 12 history) j) (cell 1 input (128 * (j - 6) + 2 * p))

  module _ (samples : List Float) where
    -- the input has the rows that a frame of so many slots reads, and the other lists have room for the layout; nothing changes where they do not
    abbrev pub enough : ℕ → Bool
    enough slots = leb (128 * (slots + 6)) (length input) && leb (12 * split_of l) (length history) && leb (64 * unsplit_from_of l) (length samples)

    abbrev pub answer_of : ℕ → Answer
    answer_of slots = cond (enough slots) Done Buffers

    -- the frame's last six slots of each split band; what lies behind stays
    unfoldable pub history_after : ℕ → List Float
    history_after slots = cond (enough slots) (rows (λ p. planar 6 (λ j. slot_at p (slots + j))) (split_of l) ++ drop (12 * split_of l) history) history

    -- the hybrid samples of each channel of a split band, of which the frame's slots are written; the other channels are QMF bands as they are
    unfoldable pub samples_after : ℕ → List Float
    samples_after slots =
        cond (enough slots)
        (rows (λ k. planar 32 (overwritten slots (λ n. hybrid l slot_at n k) (λ n. sample_at samples n k))) (unsplit_from_of l) ++ drop (64 * unsplit_from_of l) samples)
        samples
