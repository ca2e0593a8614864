-- `fixed::pair` meets its contract: each part is the float of the number that was read; a place at the largest number has none after it. Assumes nothing.
use Rattle.std.proofs.Common.{◌≡◌, ℕ, ◌+◌, ◌<◌, ◌≤◌, min, List, length, get_or, pos, w64, arith, sym, ap, ◌∙◌}
use mathlib.Core.Bool.{Bool, true, false, not}
use lib.Dec.{T, ltb, ltb→lt, nltb→le}
use lib.IntN.{ℤ}
use lib.ListN.{get_or-eq_default}
use mir.ValLaws.{to_z-of_z}
use Rattle.fixed.proofs.pair.Goals as goal

-- no list has a place as high
after : (l : List ℤ) (n most : ℕ) → length l ≤ most → get_or l (min (n + 1) most) (pos 0) ≡ get_or l (n + 1) (pos 0)
after l n most h = go (ltb (n + 1) most) (ltb→lt (n + 1) most) (nltb→le (n + 1) most)
  where
    go : (t : Bool) → (T t → n + 1 < most) → (T (not t) → most ≤ n + 1) → get_or l (min (n + 1) most) (pos 0) ≡ get_or l (n + 1) (pos 0)
    go true a b = let low : n + 1 < most = a tt in ap (λ (k : ℕ). get_or l k (pos 0)) (omega arith)
    go false a b =
        let high : most ≤ n + 1 = b tt in
        get_or-eq_default l (pos 0) {n = min (n + 1) most} (omega arith) ∙ sym (get_or-eq_default l (pos 0) {n = n + 1} (omega arith))

pub returns : goal.returns
returns c =
    let n = c.number in
    let m = c.number-2 in
    let long : length c.args.table.now ≤ 18446744073709551615 = omega arith in
    rw (
      c.unit.ensures,
      c.unit-2.ensures,
      to_z-of_z w64 n.result (record { sfits = n.type_inv }),
      to_z-of_z w64 m.result (record { sfits = m.type_inv }),
      n.ensures,
      m.ensures,
      c.saturating_add.ensures,
      after c.args.table.now c.args.at 18446744073709551615 long,
    )
