-- `ps_stereo_envelope::rotated` meets its contract: the five products, each by what it multiplies. Assumes nothing.
use Rattle.standard.specs.Mixing.{rotated_by}
use Rattle.ps_stereo_envelope.proofs.rotated.Goals as goal

pub returns : goal.returns
unfolding rotated_by
returns c =
    rw (
      c.mul.ensures,
      c.mul-2.ensures,
      c.mul-3.ensures,
      c.mul-4.ensures,
      c.mul-second.ensures,
      c.conj-back.ensures,
    )
