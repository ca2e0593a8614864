-- `ps_hybrid_analysis::filter::convolved` meets its contract: after m taps the sum is the definition's after m. Assumes nothing.
use mathlib.Core.Path.{◌≡◌, sym, ap, ◌∙◌}
use Prim.Native.Nat.{◌+◌, ◌-◌}
use native.Mathlib.Numerals.{add-one}
use native.Mathlib.Omega.{arith}
use Rattle.complex.specs.declared.Complex.{Complex}
use Rattle.complex.specs.Operations.{sum, product}
use Rattle.planar.specs.Cells.{cell}
use Rattle.planar.proofs.Cells.{by_parts}
use Rattle.standard.specs.Hybrid.{added_to}
use Rattle.standard.proofs.Literals.{zero_is}
use Rattle.ps_hybrid_analysis.proofs.Taps.{convolved_more}
use Rattle.ps_hybrid_analysis.proofs.filter.convolved.Goals as goal

pub loop-m-init : goal.loop-m-init
unfolding added_to
loop-m-init c = record { within = omega arith; is = by_parts zero_is zero_is }

pub loop-m-preserved : goal.loop-m-preserved
loop-m-preserved c =
    let s = c.args in
    let m = c.loop-m.m in
    record {
      within = omega arith;
      is = rw (add-one m) (ap (λ (z : Complex). sum z (product (cell 13 s.taps.now m) (cell 44 s.band.now (s.n + 12 - m)))) c.loop-m.invariant.is ∙ sym (convolved_more (cell 13 s.taps.now) (cell 44 s.band.now) s.n m));
    }

pub returns : goal.returns
returns c =
    let l = c.loop-m in
    let all : l.m ≡ 13 = omega arith in
    rw all at l.invariant.is
