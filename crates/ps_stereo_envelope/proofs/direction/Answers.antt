-- `ps_stereo_envelope::direction` meets its contract: the direction at the three indices. Assumes nothing.
use borrow.Author.Rules.{rules}
use lib.IntN.{pos}
use lib.ListN.{get_or}
use mir.Facts.{to_z-of_z}
use mir.Syntax.{w8}
use Rattle.integers.proofs.Bits.{back}
use Rattle.standard.specs.Mixing.{direction_of}
use Rattle.ps_stereo_envelope.proofs.direction.Goals as goal

pub returns : goal.returns
unfolding direction_of
returns c =
    rw (
      c.direction.ensures,
      c.natural_index-oldest.ensures,
      c.natural_index-previous.ensures,
      c.natural_index.ensures,
      back w8 (get_or c.args.kept.now 0 (pos 0)) (search rules),
      back w8 (get_or c.args.kept.now 1 (pos 0)) (search rules),
      to_z-of_z c.ranges.current,
    )
