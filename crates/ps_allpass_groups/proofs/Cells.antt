-- A cell of eight numbers that is lent and comes back: one cell of each lane is new. Assumes nothing.
use mathlib.Core.Path.{◌≡◌, ap, ◌∙◌}
use mathlib.Core.Bool.{Bool, true, false, not}
use mathlib.Core.Logic.{◌≢◌}
use mathlib.Core.List.{List}
use Prim.Native.Nat.{ℕ, ◌+◌, ◌*◌, ◌≤◌, ◌<◌}
use native.Mathlib.Omega.{arith}
use lib.Dec.{T, ltb, ltb→lt, nltb→le}
use lib.Ieee.{Float, nan}
use lib.ListN.{length, get_or}
use Rattle.complex.specs.declared.Complex.{Complex}
use Rattle.planar.specs.Cells.{cell}
use Rattle.planar.proofs.Cells.{by_parts}
use Rattle.lists.specs.Part.{part, put}
use Rattle.lists.proofs.Parts.{part_at, put_before, put_within, put_behind}
use Rattle.standard.specs.declared.Link.{Link}
use Rattle.standard.specs.Channel.{link_state, link_output}
use Rattle.ps_allpass_groups.specs.declared.lanes.Four.{Four}
use Rattle.ps_allpass_groups.specs.declared.lanes.Pair.{Pair}
use Rattle.ps_allpass_groups.specs.Lanes.{lane_of, link_of, lanes, flat}
use Rattle.planar.specs.Lanes.{on}
use Rattle.ps_allpass_groups.proofs.OfLanes.{lane_of_lem, cell_flat}

-- cells of which one is new
pub record Put (place : ℕ) (v : Complex) (f₀ f : ℕ → Complex) : Type 0 where
  pub here : f place ≡ v
  pub rest : (j : ℕ) → j ≢ place → f j ≡ f₀ j

-- a link's slot on the cells of a lane
pub record Step (k : ℕ) (u : Complex) (link : Link) (f₀ f : ℕ → Complex) (v : Complex) : Type 0 where
  pub state : Put k (link_state u link (f₀ k)) f₀ f
  pub output : v ≡ link_output u link (f₀ k)

-- a cell of eight numbers one slot later, and what comes out
abbrev pub Linked : List Float → Pair → Pair → Four → List Float → Pair → Type 0
Linked cell₀ u rotation feedback cell₁ v =
    (cell₁ ≡ flat (lanes (λ i. link_state (lane_of i u) (link_of i rotation feedback) (cell 4 cell₀ i))))
    × (v ≡ lanes (λ i. link_output (lane_of i u) (link_of i rotation feedback) (cell 4 cell₀ i)))

-- the number n of what is lent is 8 (in the code's words, a + 8 - a)
module _ (k n : ℕ) (xs : List Float) (eight : n ≡ 8) (room : 8 * k + 8 ≤ length xs) (i : ℕ) (l : i < 4) where
  pub lent : cell 4 (part (8 * k) n xs) i ≡ on i xs k
  unfolding on
  lent =
      by_parts (part_at (8 * k) n xs i nan (omega arith))
      (part_at (8 * k) n xs (i + 4) nan (omega arith) ∙ ap (λ (m : ℕ). get_or xs m nan) (omega arith))

  pub back_in : (ys : List Float) (p : Pair) → ys ≡ flat p → Put k (lane_of i p) (on i xs) (on i (put (8 * k) n xs ys))
  unfolding on
  back_in ys p e = record { here = here; rest = λ j ne. go j ne (ltb j k) (ltb→lt j k) (nltb→le j k) }
    where
      long : length ys ≡ 8
      long = ap length e

      inside : 8 * k ≤ length xs
      inside = omega arith

      here : cell 4 (put (8 * k) n xs ys) (8 * k + i) ≡ lane_of i p
      here =
          by_parts (put_within (8 * k) n xs ys inside i nan (omega (arith, long)))
          (ap (λ (m : ℕ). get_or (put (8 * k) n xs ys) m nan) (omega (arith, long)) ∙ put_within (8 * k) n xs ys inside (i + 4) nan (omega (arith, long)))
          ∙ ap (λ (zs : List Float). cell 4 zs i) e
          ∙ cell_flat p i l

      go : (j : ℕ) → j ≢ k → (t : Bool) → (T t → j < k) → (T (not t) → k ≤ j) → cell 4 (put (8 * k) n xs ys) (8 * j + i) ≡ cell 4 xs (8 * j + i)
      go j ne true a b =
          let h : j < k = a tt in
          by_parts (put_before (8 * k) n xs ys inside (8 * j + i) nan (omega (arith, long))) (put_before (8 * k) n xs ys inside (8 * j + i + 4) nan (omega (arith, long)))
      go j ne false a b =
          let h : k ≤ j = b tt in
          let m : k < j = omega (arith, ne) in
          by_parts (put_behind (8 * k) n xs ys inside (8 * j + i) nan (omega (arith, long)) (omega (arith, long)))
          (put_behind (8 * k) n xs ys inside (8 * j + i + 4) nan (omega (arith, long)) (omega (arith, long)))

  pub link_step : (u rotation : Pair) (feedback : Four) {ys : List Float} {v : Pair} → Linked (part (8 * k) n xs) u rotation feedback ys v
      → Step k (lane_of i u) (link_of i rotation feedback) (on i xs) (on i (put (8 * k) n xs ys)) (lane_of i v)
  link_step u rotation feedback {ys} {v} r =
      record {
        state = rw (← lent, ← lane_of_lem (λ j. link_state (lane_of j u) (link_of j rotation feedback) (cell 4 (part (8 * k) n xs) j)) i l) (back_in ys _ r.0);
        output = ap (lane_of i) r.1 ∙ lane_of_lem (λ j. link_output (lane_of j u) (link_of j rotation feedback) (cell 4 (part (8 * k) n xs) j)) i l ∙ ap (link_output (lane_of i u) (link_of i rotation feedback)) lent;
      }
