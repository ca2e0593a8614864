-- The map has a band below 34 for each channel.
use Rattle.std.proofs.Common.{arith}
use Rattle.layout.proofs.Bounds.{bounds}
use Rattle.ps_decorr_transient.proofs.Powers.{band_within}
use Rattle.stages.proofs.sheet.band_of.Goals as goal

pub returns : goal.returns
returns c = omega (arith, c.from.ensures, (bounds c.args.layout).bands, band_within c.args.layout c.parameter_map.result c.args.k c.parameter_map.ensures)
