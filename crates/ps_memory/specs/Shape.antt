-- The states that a memory keeps whole. In code the lengths and the ranges of indices hold by their types. Assumes nothing.
use Rattle.std.specs.Prelude.{ℕ, ◌≤◌, ◌<◌, ◌≡◌, List, ℤ, pos, length, get_or}
use Rattle.std.specs.Int.Signed.{mag}
use Rattle.ps_data.specs.Indices.{PsIndexState}
use Rattle.ps_rows.specs.declared.Row.{Row}
use Rattle.ps_state.specs.declared.PsDecoder.{PsDecoder}
use Rattle.ps_state.specs.Shape.{Shaped}

-- every index is an i8
pub record Narrow (v : List ℤ) : Type 0 where
  pub at : (i : ℕ) → mag (get_or v i (pos 0)) < 128

pub record RowKept (r : Row) : Type 0 where
  pub count : r.used ≤ 34
  pub long : length r.at ≡ 34
  pub narrow : Narrow r.at

pub record IndicesKept (s : PsIndexState) : Type 0 where
  pub iid : RowKept s.iid
  pub icc : RowKept s.icc
  pub ipd : RowKept s.ipd
  pub opd : RowKept s.opd

pub record StateKept (s : PsDecoder) : Type 0 where
  pub fewest : 6 ≤ s.asked
  pub most : s.asked ≤ 32
  pub turned : s.decorr.turn < 420
  pub shape : Shaped s
  pub rows : IndicesKept s.lines.rows
  pub phases : Narrow s.stereo.phases
