-- A rule of a table is proved at all of its groups by one test that is computed over the whole table, and one law for every width and length.
-- Assumes nothing.
use mathlib.Core.Path.{◌≡◌, refl, sym, ap, subst, ◌∙◌}
use mathlib.Core.Bool.{Bool, true, false}
use mathlib.Core.List.{List, [], ◌∷◌}
use Prim.Native.Nat.{ℕ, zero, suc, ◌+◌, ◌*◌, ◌^◌, ◌<◌, ◌≤◌}
use native.Mathlib.Nat.{le_of_suc-le-suc, not-suc-le-zero, zero-mul, suc-mul, add_comm}
use native.Mathlib.Omega.{arith}
use lib.Dec.{T, leb, ltb, eqb, leb→le, ltb→lt, eqb→eq}
use lib.IntN.{ℤ, pos, nat_abs}
use lib.ListN.{length, take, drop, get_or}
use lib.Seq.{drop-drop}
use Rattle.tables.specs.Rule.{Near, squares, group, Ruled}

-- ---- the tests

abbrev pub both : Bool → Bool → Bool
both true b = b
both false b = false

pub both_left : (a b : Bool) → T (both a b) → T a
both_left true b t = tt
both_left false b t = t

pub both_right : (a b : Bool) → T (both a b) → T b
both_right true b t = t
both_right false b t = absurd t

abbrev pub near : ℕ → ℕ → ℕ → Bool
near a b d = both (leb a (b + d)) (leb b (a + d))

-- the squares of each of the first `count` groups sum to `total` within `slack`
abbrev pub all_near : ℕ → ℕ → ℕ → List ℤ → ℕ → Bool
all_near width total slack table zero = true
all_near width total slack table (suc count) = both (near (squares (take width table)) total slack) (all_near width total slack (drop width table) count)

abbrev pub all_small : List ℤ → Bool
all_small [] = true
all_small (z ∷ zs) = both (ltb (nat_abs z) (2 ^ 53)) (all_small zs)

abbrev pub ruled : List ℤ → ℕ → ℕ → ℕ → ℕ → Bool
ruled table count width total slack = both (eqb (length table) (count * width)) (both (all_near width total slack table count) (all_small table))

-- ---- what a passed test says

near→Near : (a b d : ℕ) → T (near a b d) → Near a b d
near→Near a b d t = record {
  over = leb→le a (b + d) (both_left (leb a (b + d)) (leb b (a + d)) t);
  under = leb→le b (a + d) (both_right (leb a (b + d)) (leb b (a + d)) t);
}

module _ (width total slack : ℕ) where
  near_at : (table : List ℤ) (count : ℕ) → T (all_near width total slack table count) → (k : ℕ) → k < count → Near (squares (group width table k)) total slack
  near_at table zero t k h = absurd (not-suc-le-zero h)
  near_at table (suc count) t zero h =
      rw (zero-mul width) (near→Near (squares (take width table)) total slack (both_left (near (squares (take width table)) total slack) (all_near width total slack (drop width table) count) t))
  near_at table (suc count) t (suc k) h =
      rw (suc-mul k width, add_comm (k * width) width, ← drop-drop (k * width) width table)
      (near_at (drop width table) count (both_right (near (squares (take width table)) total slack) (all_near width total slack (drop width table) count) t) k (le_of_suc-le-suc h))

small_at : (table : List ℤ) → T (all_small table) → (i : ℕ) → i < length table → nat_abs (get_or table i (pos 0)) < 2 ^ 53
small_at [] t i h = absurd (not-suc-le-zero h)
small_at (z ∷ zs) t zero h = ltb→lt (nat_abs z) (2 ^ 53) (both_left (ltb (nat_abs z) (2 ^ 53)) (all_small zs) t)
small_at (z ∷ zs) t (suc i) h = small_at zs (both_right (ltb (nat_abs z) (2 ^ 53)) (all_small zs) t) i (le_of_suc-le-suc h)

-- one test proves the rule
pub tested : (table : List ℤ) (count width total slack : ℕ) → T (ruled table count width total slack) → Ruled table count width total slack
tested table count width total slack t =
    let a = eqb (length table) (count * width) in
    let b = all_near width total slack table count in
    let e = eqb→eq (length table) (count * width) (both_left a (both b (all_small table)) t) in
    let rest = both_right a (both b (all_small table)) t in
    record {
      counted = e;
      near = near_at width total slack table count (both_left b (all_small table) rest);
      small = λ i h. small_at table (both_right b (all_small table) rest) i (subst (λ n. i < n) (sym e) h);
    }
