-- `ps_allpass_groups::groups` meets its contract: all groups where there is room for them, and otherwise none. Assumes nothing.
use mathlib.Core.Path.{refl}
use borrow.Author.Rules.{rules}
use native.Mathlib.Omega.{arith}
use Rattle.layout.proofs.Bounds.{bounds}
use Rattle.ps_allpass_groups.proofs.groups.Goals as goal

pub overflow_mul-count : goal.overflow_mul-count
overflow_mul-count c = omega (arith, c.groups-count.ensures, (bounds c.args.layout).groups)

pub returns-then-delays-count : goal.returns-then-delays-count
returns-then-delays-count c =
    let is = c.groups-count.ensures in
    let short = c.if-delays-count.true in
    record { roomy = λ h k. absurd (omega (arith, is, short)); narrow = λ h. (refl, refl); narrow_desks = λ h. (refl, refl) }

pub returns-then-desks-count : goal.returns-then-desks-count
returns-then-desks-count c =
    let is = c.groups-count.ensures in
    let short = c.if-desks-count.true in
    record { roomy = λ h k. absurd (omega (arith, is, short)); narrow = λ h. (refl, refl); narrow_desks = λ h. (refl, refl) }

pub returns : goal.returns
returns c =
    let is = c.groups-count.ensures in
    let enough = c.if-delays-count.false in
    let desks-enough = c.if-desks-count.false in
    record {
      roomy = λ h k. c.each.ensures;
      narrow = λ h. absurd (omega (arith, is, enough));
      narrow_desks = λ h. absurd (omega (arith, is, desks-enough));
    }
