-- §8.6.4.6: the coefficients of every band at every border of a frame. A band's course: the coefficients kept from the frame before, then those of each
-- envelope, eight numbers at each border. The table of directions is lent. Assumes nothing.
use Rattle.std.specs.Prelude.{ℕ, zero, suc, ◌+◌, ◌*◌, min, Bool, cond, ◌&&◌, List, ◌++◌, leb, Float, ℤ, length, drop}
use Rattle.calls.specs.Call.{modes_of}
use Rattle.calls.specs.Cues.{cue_at}
use Rattle.cue.specs.declared.Header.{Header}
use Rattle.layout.specs.declared.Layout.{Layout}
use Rattle.layout.specs.Numbers.{bands_of}
use Rattle.limits.specs.Limits as limits
use Rattle.lists.specs.Part.{part}
use Rattle.lists.specs.Rows as lists
use Rattle.mixing_table.specs.Values.{mixing}
use Rattle.planar.specs.Frame.{numbers_of}
use Rattle.ps_data.specs.Indices.{PsIndices}
use Rattle.ps_stereo.specs.Kept.{kept_in, matrices_with, phases_with}
use Rattle.standard.specs.Mixing as standard
use Rattle.standard.specs.Mixing.{Cue, Kept}

module _ (l : Layout) (h : Header) (indices : PsIndices) (directions : List ℤ) (matrices : List Float) (phases : List ℤ) where
  -- what a band keeps after an envelope, as `kept_after` of the standard, but by the lent table
  abbrev pub kept_after : Kept → Cue → Kept
  kept_after kept cue =
      record {
        matrix = standard.matrix_from mixing directions (modes_of h) kept cue;
        ipd = standard.phases_after h.phase kept.ipd cue.ipd;
        opd = standard.phases_after h.phase kept.opd cue.opd;
      }

  -- what band b keeps after e envelopes
  unfoldable pub kept_then : ℕ → ℕ → Kept
  kept_then b zero = kept_in matrices phases b
  kept_then b (suc e) = kept_after (kept_then b e) (cue_at l h.config indices e b)

  -- a layout's courses, the first `count` envelopes behind the kept coefficients; what lies behind stays
  unfoldable pub courses_then : ℕ → List Float → List Float
  courses_then count old =
      lists.rows (λ b. lists.rows (λ e. cond (leb e count) (numbers_of (kept_then b e).matrix) (part (limits.course * b + 8 * e) 8 old)) limits.borders) (bands_of l)
      ++ drop (limits.course * bands_of l) old

  -- a frame's envelopes, cut to the limit
  abbrev pub count : ℕ
  count = min h.envelopes limits.envelopes

  module _ (rows : List Float) where
    -- the lists have room for the layout's bands; nothing changes where they have none
    abbrev pub fits : Bool
    fits = leb (8 * bands_of l) (length matrices) && leb (4 * bands_of l) (length phases) && leb (limits.course * bands_of l) (length rows)

    unfoldable pub rows_after : List Float
    rows_after = cond fits (courses_then count rows) rows

    unfoldable pub matrices_after : List Float
    matrices_after = cond fits (matrices_with l (λ b. kept_then b count) matrices) matrices

    unfoldable pub phases_after : List ℤ
    phases_after = cond fits (phases_with l (λ b. kept_then b count) phases) phases
