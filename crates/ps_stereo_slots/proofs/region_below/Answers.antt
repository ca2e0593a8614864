-- `ps_stereo_slots::region_below` meets its contract: the envelopes from e on do not have the slot. Assumes nothing.
use mathlib.Core.Path.{◌≡◌, sym, ◌∙◌}
use mathlib.Core.Bool.{true, false}
use mathlib.Core.List.{List}
use Prim.Native.Nat.{ℕ, ◌-◌, ◌<◌}
use native.Mathlib.Omega.{arith}
use Rattle.ps_stereo_slots.specs.Envelopes.{in_region, region_below}
use Rattle.ps_stereo_slots.proofs.Located.{below_last}
use Rattle.ps_stereo_slots.proofs.region_below.Goals as goal

-- where the loop has come to, the last envelope left decides
module _ (borders : List ℕ) (n count e : ℕ) (same : region_below borders n e ≡ region_below borders n count) (some : 0 < e) where
  has : in_region borders (e - 1) n ≡ true → e - 1 ≡ region_below borders n count
  has here = rw here at (sym (below_last borders n e some)) ∙ same

  lacks : in_region borders (e - 1) n ≡ false → region_below borders n (e - 1) ≡ region_below borders n count
  lacks here = rw here at (sym (below_last borders n e some)) ∙ same

pub returns-then-lies_in : goal.returns-then-lies_in
returns-then-lies_in c =
    has _ _ _ c.loop-e.e c.loop-e.invariant (omega arith) (sym c.lies_in.ensures ∙ c.if-lies_in.true)

pub loop-e-preserved : goal.loop-e-preserved
loop-e-preserved c = lacks _ _ _ c.loop-e.e c.loop-e.invariant (omega arith) (sym c.lies_in.ensures ∙ c.if-lies_in.false)

pub returns : goal.returns
unfolding region_below
returns c =
    let all : c.loop-e.e ≡ 0 = omega arith in
    rw all at c.loop-e.invariant
