-- `ps_stereo_borders::modes_of` meets its contract: the two tests are the configuration's own. Assumes nothing.
use Rattle.ps_stereo_borders.proofs.modes_of.Goals as goal

pub returns : goal.returns
returns c = rw (c.rb.ensures, c.fine.ensures)
