-- `cue::fields::first_bad_head` meets its contract: bytes 0 to 3 are checked one after the other. Assumes nothing.
use Rattle.cue.specs.Checks.{every}
use Rattle.cue.proofs.Finding.{found_or}
use Rattle.cue.proofs.fields.first_bad_head.Goals as goal

pub returns : goal.returns
unfolding every
returns c = simp (c.or-3.ensures, c.or-2.ensures, c.or.ensures, c.first_over.ensures, c.first_over-2.ensures, c.first_over-3.ensures, c.first_over-4.ensures, ← found_or c.args.bytes.now)
