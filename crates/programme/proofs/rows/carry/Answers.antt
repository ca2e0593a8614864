-- `programme::rows::carry` meets its contract: what is copied to the front is the definition's six rows, number by number.
use Rattle.std.proofs.Common.{◌≡◌, ◌∙◌, ℕ, ◌+◌, ◌*◌, ◌≤◌, min, List, length, get_or, take, drop, refl, sym, ap, arith, eq-eqb, length-take-le, length-drop}
use Rattle.std.proofs.lemmas.List.{get_or-take, get_or-drop}
use Rattle.std.specs.Float.{Float, nan}
use native.Mathlib.Nat.{add-sub_cancel_left}
use borrow.Author.Tests.{ne_eqb}
use Rattle.lists.specs.Rows.{tabulate}
use Rattle.lists.proofs.Maps.{copied, tabulate_same}
use Rattle.programme.specs.Rows.{carried_rows}
use Rattle.programme.proofs.rows.carry.Goals as goal

module _ (l : List Float) (m n : ℕ) (inside : m + n ≤ length l) where
  part_long : length (take n (drop m l)) ≡ n
  part_long = length-take-le n (drop m l) (omega (arith, length-drop m l))

  part_is : take n (drop m l) ≡ tabulate (λ i. get_or l (m + i) nan) n
  part_is =
      sym (copied (take n (drop m l)) nan)
      ∙ ap (tabulate (λ i. get_or (take n (drop m l)) i nan)) part_long
      ∙ tabulate_same (λ i. get_or (take n (drop m l)) i nan) (λ i. get_or l (m + i) nan) n (λ i h. get_or-take n (drop m l) i nan h ∙ get_or-drop m l i nan)

pub returns-then-input-eq-HEARD : goal.returns-then-input-eq-HEARD
unfolding carried_rows
returns-then-input-eq-HEARD c =
    let l : List Float = c.args.input.now in
    let m : ℕ = 128 * min c.args.slots 32 in
    let long : length l ≡ 4864 = c.if-input-eq-HEARD.true in
    let first : c.min-first.result ≡ min c.args.slots 32 = c.min-first.ensures in
    rw (eq-eqb (length l) 4864 long, ← part_is l m 768 (omega arith)) (c.copy_within.ensures.after ∙ rw (first, add-sub_cancel_left m 768) refl)

pub returns-else-input-eq-HEARD : goal.returns-else-input-eq-HEARD
unfolding carried_rows
returns-else-input-eq-HEARD c = rw (ne_eqb (length c.args.input.now) 4864 c.if-input-eq-HEARD.false)
