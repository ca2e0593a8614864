-- `borders::fixed` meets its contract: the slots up to an envelope's end are at least its number and at most all slots. Assumes nothing.
use Prim.Native.Nat.{ℕ, ◌+◌, ◌*◌, ◌/◌, ◌≤◌, ◌<◌}
use native.Mathlib.Nat.{le-div_iff_mul-le, div-lt_iff_lt-mul, mul-le-mul_left, mul-le-mul_right}
use native.Mathlib.Omega.{arith}
use Rattle.limits.specs.Limits as limits
use Rattle.borders.proofs.fixed.Goals as goal

-- at least one slot, since slots (e + 1) is at least the count of envelopes
some : (s n e : ℕ) → 6 ≤ s → n ≤ limits.envelopes → e < n → 1 ≤ s * (e + 1) / n
some s n e a b h = (le-div_iff_mul-le {k = n} {x = 1} {y = s * (e + 1)} (omega arith)).1 (omega (arith, mul-le-mul_right (e + 1) a))

few : (s n e : ℕ) → s ≤ 32 → e < n → s * (e + 1) / n < 33
few s n e a h = (div-lt_iff_lt-mul {k = n} {x = s * (e + 1)} {y = 33} (omega arith)).1 (omega (arith, mul-le-mul_right (e + 1) a))

pub overflow_mul-result : goal.overflow_mul-result
overflow_mul-result c = omega (arith, mul-le-mul_left {m = c.args.e + 1} {n = limits.envelopes} c.args.slots (omega arith))

pub overflow_sub-result : goal.overflow_sub-result
overflow_sub-result c = omega (arith, some c.args.slots c.args.envelopes c.args.e (omega arith) (omega arith) (omega arith))

pub overflow_cast-result : goal.overflow_cast-result
overflow_cast-result c = omega (arith, few c.args.slots c.args.envelopes c.args.e (omega arith) (omega arith))
