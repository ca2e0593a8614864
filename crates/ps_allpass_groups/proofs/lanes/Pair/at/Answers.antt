-- `ps_allpass_groups::lanes::Pair::at` meets its contract: the imaginary parts stand four places behind. Assumes nothing.
use mathlib.Core.Path.{◌≡◌, refl, ap}
use mathlib.Core.List.{List}
use Prim.Native.Nat.{ℕ, ◌+◌}
use native.Mathlib.Omega.{arith}
use borrow.Author.Rules.{rules}
use lib.Ieee.{Float, nan}
use lib.ListN.{get_or}
use Rattle.ps_allpass_groups.proofs.lanes.Pair.at.Goals as goal

behind : (xs : List Float) (at i : ℕ) → get_or xs (at + 4 + i) nan ≡ get_or xs (at + i + 4) nan
behind xs at i = ap (λ (n : ℕ). get_or xs n nan) (omega arith)

pub returns : goal.returns
returns c =
    let a = c.args in
    let xs = a.xs.now in
    rw (c.at-2.ensures, c.at.ensures, behind xs a.at 0, behind xs a.at 1, behind xs a.at 2, behind xs a.at 3) refl
