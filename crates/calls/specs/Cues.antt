-- §8.6.4.6.1: the resolved indices of an envelope, mapped to the stereo bands of a layout. Assumes nothing.
use Rattle.std.specs.Prelude.{ℕ, min, List, [], ℤ, pos, get_or, take}
use Rattle.cue.specs.declared.Config.{Config}
use Rattle.cue.specs.Fields.{parameters_of}
use Rattle.layout.specs.declared.Layout.{Layout}
use Rattle.ps_data.specs.Indices.{PsIndices}
use Rattle.ps_map.specs.Maps.{map_row, padded_row, extended_to}
use Rattle.ps_rows.specs.declared.Row.{Row}
use Rattle.ps_rows.specs.declared.Rows.{Rows}
use Rattle.ps_rows.specs.Rows as rows
use Rattle.standard.specs.Mixing.{Cue}

-- the indices of envelope e: of an absent kind none
abbrev pub envelope_row : Rows → ℕ → Row
envelope_row kind e = get_or kind.row e (rows.padded_row [])

abbrev pub indices_of : Row → List ℤ
indices_of row = take (min row.used 34) row.at

-- an index for each band, 0 where there is none
unfoldable pub mapped_row : Layout → Rows → ℕ → List ℤ
mapped_row l kind e = padded_row (map_row (indices_of (envelope_row kind e)) l)

-- a row of phases is extended with zeros to 10, 20 or 34, by iid_mode, before it is mapped
unfoldable pub mapped_phases : Layout → Config → Rows → ℕ → List ℤ
mapped_phases l config kind e = padded_row (map_row (extended_to (parameters_of config.iid) (indices_of (envelope_row kind e))) l)

-- band b's cue in envelope e
unfoldable pub cue_at : Layout → Config → PsIndices → ℕ → ℕ → Cue
cue_at l config indices e b =
    record {
      iid = get_or (mapped_row l indices.iid e) b (pos 0);
      icc = get_or (mapped_row l indices.icc e) b (pos 0);
      ipd = get_or (mapped_phases l config indices.ipd e) b (pos 0);
      opd = get_or (mapped_phases l config indices.opd e) b (pos 0);
    }
