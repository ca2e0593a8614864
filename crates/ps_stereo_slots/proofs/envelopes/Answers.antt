-- `ps_stereo_slots::envelopes` meets its contract: each turn fills one envelope's region, and the slots after the last border hold. Assumes nothing.
use mathlib.Core.Path.{◌≡◌, refl, ap, ◌∙◌}
use Prim.Native.Nat.{ℕ, ◌+◌, ◌*◌, ◌-◌, min}
use native.Mathlib.Omega.{arith}
use Rattle.lists.specs.Part.{part}
use Rattle.planar.specs.Frame.{kept_matrix}
use Rattle.ps_stereo_slots.specs.Slots.{fraction_at}
use Rattle.ps_stereo_slots.specs.Regions.{row_matrix}
use Rattle.ps_stereo_slots.proofs.Borders.{start_next, lent_fraction}
use Rattle.ps_stereo_slots.proofs.Filled.{filled_none, region_filled, filled_held}
use Rattle.ps_stereo_slots.proofs.envelopes.Goals as goal

pub loop-e-init : goal.loop-e-init
loop-e-init c =
    let here : c.args.at ≡ c.args.at + 8 * 0 = omega arith in
    record {
      within = omega arith;
      coefficients = c.matrix_at-from.ensures ∙ ap (λ (k : ℕ). kept_matrix (part k 8 c.args.rows.now)) here;
      place = refl;
      filled = filled_none _ _ _ _ _ (omega arith);
    }

-- what is known lies too far back for the search
pub overflow_add-e : goal.overflow_add-e
overflow_add-e c =
    omega (arith, c.loop-e-test.true, c.requires.count_le_envelopes.0)

pub loop-e-smaller : goal.loop-e-smaller
loop-e-smaller c = omega (arith, c.loop-e-test.true)

pub loop-e-preserved : goal.loop-e-preserved
loop-e-preserved c =
    let s = c.args in
    let v = c.loop-e.invariant in
    let next = c.from-next.ensures ∙ c.after.ensures.0 in
    let end = c.min.ensures ∙ ap (λ (k : ℕ). min k s.slots) next in
    let lent = part (32 * c.loop-e.e) (32 * c.loop-e.e + 32 - 32 * c.loop-e.e) s.ways.fractions.now in
    record {
      within = omega arith;
      coefficients = c.matrix_at-to.ensures;
      place = next ∙ start_next s.ways.borders c.loop-e.e;
      filled =
          region_filled s.ways.borders (fraction_at s.ways.fractions.now) (row_matrix s.rows.now s.at) s.slots s.out.now _ v.filled c.loop-e.from
          c.matrix_at-to.result lent c.loop-e.first c.min.result v.coefficients c.matrix_at-to.ensures v.place end
          (λ n u. lent_fraction s.ways.fractions.now c.loop-e.e n u) c.region.ensures;
    }

pub returns : goal.returns
returns c =
    let s = c.args in
    let v = c.loop-e.invariant in
    let all : c.loop-e.e ≡ s.ways.count = omega (arith, v.within) in
    rw (← all)
    (filled_held s.ways.borders (fraction_at s.ways.fractions.now) (row_matrix s.rows.now s.at) s.slots s.out.now _ v.filled c.loop-e.from
    c.loop-e.first v.coefficients v.place c.hold.ensures)
