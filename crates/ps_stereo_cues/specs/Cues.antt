-- §8.6.4.6.1: an envelope's mapped indices of every band. Assumes nothing.
use Rattle.std.specs.Prelude.{ℕ}
use Rattle.calls.specs.Cues.{mapped_row, mapped_phases}
use Rattle.cue.specs.declared.Config.{Config}
use Rattle.layout.specs.declared.Layout.{Layout}
use Rattle.ps_data.specs.Indices.{PsIndices}
use Rattle.standard.specs.Mixing.{Cues}

unfoldable pub cues_at : Layout → Config → PsIndices → ℕ → Cues
cues_at l config indices e =
    record {
      iid = mapped_row l indices.iid e;
      icc = mapped_row l indices.icc e;
      ipd = mapped_phases l config indices.ipd e;
      opd = mapped_phases l config indices.opd e;
    }
