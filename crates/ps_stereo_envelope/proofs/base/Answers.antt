-- `ps_stereo_envelope::base` meets its contract: the set of the level and the coherence, each number with the imaginary part 0. Assumes nothing.
use borrow.Author.Rules.{rules}
use mir.Syntax.{w8}
use Rattle.integers.proofs.Bits.{back}
use Rattle.standard.specs.Mixing.{unrotated}
use Rattle.standard.proofs.Literals.{zero_is}
use Rattle.ps_stereo_envelope.proofs.base.Goals as goal

pub returns : goal.returns
unfolding unrotated
returns c =
    let i = c.args.indices in
    rw (
      zero_is,
      c.set-set.ensures,
      c.level-level.ensures,
      c.natural_index-coherence.ensures,
      back w8 i.iid (search rules),
      back w8 i.icc (search rules),
    )
