-- `ps_stereo_slots::region_at` meets its contract: up to the last border one envelope has the slot, after it none. Assumes nothing.
use mathlib.Core.Path.{◌≡◌, sym, ◌∙◌}
use native.Mathlib.Omega.{arith}
use Rattle.ps_stereo_slots.proofs.Borders.{start_after}
use Rattle.ps_stereo_slots.proofs.Located.{region_before, region_past}
use Rattle.ps_stereo_slots.proofs.region_at.Goals as goal
use Rattle.ps_stereo_slots.proofs.region_at.Goals.{else-count-gt0-via-then-count-gt0+else-n-from, else-count-gt0-via-else-count-gt0}

pub returns-then-n-from : goal.returns-then-n-from
returns-then-n-from c =
    let s = c.args in
    let first = start_after s.borders s.count (λ (none : s.count ≡ 0). omega (arith, c.if-count-gt0.true)) in
    c.region_below.ensures ∙ sym (region_before s.borders s.n s.count (omega (arith, first, c.from.ensures, c.if-n-from.true)))

pub returns : goal.returns
returns c =
    let s = c.args in
    sym (region_past s.borders s.n s.count (elim c.else-count-gt0.branch [
      | else-count-gt0-via-then-count-gt0+else-n-from w ↦ let first = start_after s.borders s.count (λ (none : s.count ≡ 0). omega (arith, w.if-count-gt0.true)) in omega (arith, first, w.from.ensures, w.if-n-from.false)
      | else-count-gt0-via-else-count-gt0 w ↦ let none : s.count ≡ 0 = omega (arith, w.if-count-gt0.false) in rw none (omega arith)
    ]))
