-- `ps_stereo::scatter` meets its contract: each turn writes number c of a band. Assumes nothing.
use mathlib.Core.Path.{◌≡◌, refl}
use native.Mathlib.Omega.{arith}
use Rattle.ps_stereo.proofs.Parts.{scattered_none, scattered_more}
use Rattle.ps_stereo.proofs.scatter.Goals as goal

pub loop-b-init : goal.loop-b-init
loop-b-init c = scattered_none _ _ _

pub loop-b-preserved : goal.loop-b-preserved
loop-b-preserved c = scattered_more c.loop-b.invariant _ c.requires c.loop-b-test.true (omega arith) refl

pub returns : goal.returns
returns c =
    let all : c.loop-b.b ≡ 34 = omega arith in
    rw all at c.loop-b.invariant
