-- Sums of channels that go on: nothing added yet, one channel more, and the four channels of a desk. Assumes nothing.
use mathlib.Core.Path.{◌≡◌, ap, ap₂, ◌∙◌}
use mathlib.Core.List.{List}
use Prim.Native.Nat.{ℕ, suc, ◌+◌, ◌-◌, ◌*◌, ◌/◌, ◌%◌, ◌≤◌}
use native.Mathlib.Omega.{arith}
use lib.Ieee.{Float}
use Rattle.complex.specs.declared.Complex.{Complex}
use Rattle.complex.specs.Operations.{sum}
use Rattle.planar.specs.Cells.{cell}
use Rattle.standard.specs.Hybrid.{added_to}
use Rattle.standard.specs.Numbers.{nought}
use Rattle.ps_allpass_channels.specs.Desks.{standing}

-- whichever channel a sum of those to before `from` begins at, the result is the sum of those to before `end`
abbrev pub CarriedOn : (ℕ → Complex) → ℕ → ℕ → Complex → Complex → Type 0
CarriedOn y from end start result = (first : ℕ) → first ≤ from → start ≡ added_to y first (from - first) → result ≡ added_to y first (end - first)

pub none_yet : (y : ℕ → Complex) (first from : ℕ) → from ≡ first → nought ≡ added_to y first (from - first)
unfolding added_to
none_yet y first from e = let empty : from - first ≡ 0 = omega arith in rw empty

pub one_more : (y : ℕ → Complex) (from k next : ℕ) (start x z : Complex) → next ≡ k + 1 → from ≤ k → CarriedOn y from k start x → z ≡ y k
    → CarriedOn y from next start (sum x z)
unfolding added_to
one_more y from k next start x z e begun so_far is = λ first u f.
    let one : next - first ≡ suc (k - first) = omega arith in
    let here : k ≡ first + (k - first) = omega arith in
    rw one (ap₂ sum (so_far first u f) (is ∙ ap y here))

module _ (desks : List Float) (place j : ℕ) where
  abbrev at : ℕ
  at = 136 * j + place

  lane : (p k : ℕ) → p ≡ 136 * (k / 4) + k % 4 + place → cell 4 desks p ≡ standing desks place k
  lane p k e = ap (cell 4 desks) e

  pub desk_more : (from : ℕ) (start x : Complex) → from ≤ 4 * j → CarriedOn (standing desks place) from (4 * j) start x
      → CarriedOn (standing desks place) from (4 * (j + 1)) start
      (sum (sum (sum (sum x (cell 4 desks at)) (cell 4 desks (at + 1))) (cell 4 desks (at + 2))) (cell 4 desks (at + 3)))
  desk_more from start x begun so_far =
      let y = standing desks place in
      let l : ℕ → Complex = cell 4 desks in
      let x1 = sum x (l at) in
      let x2 = sum x1 (l (at + 1)) in
      let x3 = sum x2 (l (at + 2)) in
      one_more y from (4 * j + 3) (4 * (j + 1)) start x3 (l (at + 3)) (omega arith) (omega arith)
      (one_more y from (4 * j + 2) (4 * j + 3) start x2 (l (at + 2)) (omega arith) (omega arith)
      (one_more y from (4 * j + 1) (4 * j + 2) start x1 (l (at + 1)) (omega arith) (omega arith)
      (one_more y from (4 * j) (4 * j + 1) start x (l at) (omega arith) begun so_far (lane at (4 * j) (omega arith)))
      (lane (at + 1) (4 * j + 1) (omega arith)))
      (lane (at + 2) (4 * j + 2) (omega arith)))
      (lane (at + 3) (4 * j + 3) (omega arith))
