-- A slot in rows of complex numbers, re and im: hybrid samples, the two sides of mixing (§8.6.4.6), and the QMF bands of a side (§8.6.4.7). Assumes nothing.
use Rattle.std.specs.Prelude.{ℕ, ◌+◌, ◌*◌, Bool, cond, ◌&&◌, List, ◌++◌, leb, ltb, Float, length, drop}
use Rattle.complex.specs.declared.Complex.{Complex}
use Rattle.layout.specs.declared.Layout.{Layout}
use Rattle.layout.specs.Numbers.{bands_of, channels_of, unsplit_from_of}
use Rattle.lists.specs.Part.{part}
use Rattle.planar.specs.Cells.{cell, side_by_side}
use Rattle.planar.specs.Frame.{sample_in, matrix_at}
use Rattle.ps_map.specs.Bands.{band_of, conjugated_of}
use Rattle.standard.specs.declared.Matrix.{Matrix}
use Rattle.standard.specs.Hybrid.{synthesised}
use Rattle.standard.specs.Mixing.{left_of, right_of}

-- a row whose first complex numbers are new; what lies behind them stays
unfoldable pub row_with : ℕ → (ℕ → Complex) → List Float → List Float
row_with count new old = side_by_side new count ++ drop (2 * count) old

-- number k of a row
abbrev pub in_row : List Float → ℕ → Complex
in_row row k = cell 1 row (2 * k)

module _ (l : Layout) where
  -- the hybrid samples of slot n
  unfoldable pub samples_after : ℕ → List Float → List Float → List Float → List Float
  samples_after n split input row =
      cond (ltb n 32 && leb (64 * unsplit_from_of l) (length split) && leb (128 * n + 128) (length input) && leb (2 * channels_of l) (length row))
      (row_with (channels_of l) (sample_in l split input n) row)
      row

  -- the two sides, by the coefficients of channel k's band in slot n
  module _ (n : ℕ) (runs samples decorrelated : List Float) where
    abbrev mixed_by : (Bool → Matrix → Complex → Complex → Complex) → ℕ → Complex
    mixed_by side k = side (conjugated_of l k) (matrix_at (part (256 * band_of l k) 256 runs) n) (in_row samples k) (in_row decorrelated k)

    abbrev enough : List Float → List Float → Bool
    enough left right =
        ltb n 32 && leb (256 * bands_of l) (length runs) && leb (2 * channels_of l) (length samples) && leb (2 * channels_of l) (length decorrelated)
        && leb (2 * channels_of l) (length left) && leb (2 * channels_of l) (length right)

    unfoldable pub left_after : List Float → List Float → List Float
    left_after left right = cond (enough left right) (row_with (channels_of l) (mixed_by left_of) left) left

    unfoldable pub right_after : List Float → List Float → List Float
    right_after left right = cond (enough left right) (row_with (channels_of l) (mixed_by right_of) right) right

  -- the QMF bands of a side
  unfoldable pub qmf_after : List Float → List Float → List Float
  qmf_after hybrid row = cond (leb (2 * channels_of l) (length hybrid) && leb 128 (length row)) (row_with 64 (synthesised l (in_row hybrid)) row) row
