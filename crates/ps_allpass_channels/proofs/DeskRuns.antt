-- Numbers written side by side on the desks, and that four lanes of a desk are four channels. Assumes nothing.
use mathlib.Core.Path.{◌≡◌, refl, ap, ◌∙◌}
use mathlib.Core.Bool.{Bool, true, false}
use mathlib.Core.Logic.{◌≢◌}
use mathlib.Core.List.{List}
use Prim.Native.Nat.{ℕ, ◌+◌, ◌-◌, ◌*◌, ◌/◌, ◌%◌, ◌≤◌, ◌<◌}
use native.Mathlib.Omega.{arith}
use borrow.Author.Tests.{eqb-true, eqb-false, ltb-true, ltb-false}
use lib.Dec.{eqb, ltb}
use lib.Ieee.{Float, nan}
use lib.ListN.{length, get_or, set, length-set}
use lib.Seq.{get_or-set_same, get_or-set_other}
use Rattle.layout.specs.declared.Layout.{Layout}
use Rattle.layout.specs.declared.Layout.TheVariants.{Bands20, Bands34}
use Rattle.layout.specs.Numbers.{split_of, unsplit_from_of, groups_of}
use Rattle.ps_allpass_channels.specs.DeskNumbers.{number_at, Put}

-- ---- the last five desks are those of QMF bands 5 to 24
pub last_five : (l : Layout) → (5 ≤ groups_of l) × (4 * groups_of l + split_of l ≡ unsplit_from_of l + 25)
last_five Bands20 = (omega arith, refl)
last_five Bands34 = (omega arith, refl)

-- ---- numbers side by side, `count` of them from a place on
pub record Run (at count : ℕ) (new : ℕ → Float) (old xs : List Float) : Type 0 where
  pub long : length xs ≡ length old
  pub inside : (i : ℕ) → i < count → get_or xs (at + i) nan ≡ new i
  pub below : (p : ℕ) → p < at → get_or xs p nan ≡ get_or old p nan
  pub above : (p : ℕ) → at + count ≤ p → get_or xs p nan ≡ get_or old p nan

pub run_none : (at : ℕ) (new : ℕ → Float) (xs : List Float) → Run at 0 new xs xs
run_none at new xs = record { long = refl; inside = λ i u. absurd (omega arith); below = λ p u. refl; above = λ p u. refl }

-- one more, at a place that the code writes in its own way
pub run_more : {at : ℕ} {new : ℕ → Float} {old xs : List Float} (count place : ℕ) (v : Float) → place ≡ at + count → place < length old → v ≡ new count
    → Run at count new old xs → Run at (count + 1) new old (set xs place v)
run_more {at} {new} {old} {xs} count place v is_at within is r =
    record {
      long = simp length-set r.long;
      inside = λ i u. one i u (eqb i count) refl;
      below = λ p u. other p (λ (e : p ≡ place). omega arith) ∙ r.below p u;
      above = λ p u. other p (λ (e : p ≡ place). omega arith) ∙ r.above p (omega arith);
    }
  where
    other : (p : ℕ) → p ≢ place → get_or (set xs place v) p nan ≡ get_or xs p nan
    other p ne = get_or-set_other xs place p v nan ne

    one : (i : ℕ) → i < count + 1 → (t : Bool) → eqb i count ≡ t → get_or (set xs place v) (at + i) nan ≡ new i
    one i u true s =
        let here : i ≡ count = eqb-true i count s in
        rw (here, ← is_at) (get_or-set_same xs place v nan (omega (arith, r.long)) ∙ is)
    one i u false s =
        let apart : i ≢ count = eqb-false i count s in
        other (at + i) (λ (e : at + i ≡ place). apart (omega arith)) ∙ r.inside i (omega (arith, apart))

-- `count` numbers of each of a desk's four channels
module _ (g first count : ℕ) {own : ℕ → Float} {new : ℕ → ℕ → Float} {old xs : List Float} (r : Run (136 * g + 4 * first) (4 * count) own old xs) where
  pub run_put : first + count ≤ 34
      → ((i j : ℕ) → i < 4 → first ≤ j → j < first + count → own (i + 4 * (j - first)) ≡ new (4 * g + i) j)
      → Put (4 * g) (4 * g + 4) first (λ j. j < first + count) new old xs
  run_put fits is =
      record {
        long = r.long;
        inside = inside;
        below = λ k j a u. r.below (136 * (k / 4) + k % 4 + 4 * j) (omega arith);
        above = λ k j a u. r.above (136 * (k / 4) + k % 4 + 4 * j) (omega arith);
        before = λ k j u. before k j u (ltb k (4 * g + 4)) refl;
      }
    where
      inside : (k j : ℕ) → 4 * g ≤ k → k < 4 * g + 4 → first ≤ j → j < 34 → j < first + count → number_at xs k j ≡ new k j
      inside k j a b lo u some =
          let here : 136 * (k / 4) + k % 4 + 4 * j ≡ 136 * g + 4 * first + (k - 4 * g + 4 * (j - first)) = omega arith in
          let channel : 4 * g + (k - 4 * g) ≡ k = omega arith in
          ap (λ (p : ℕ). get_or xs p nan) here ∙ r.inside (k - 4 * g + 4 * (j - first)) (omega arith) ∙ is (k - 4 * g) j (omega arith) lo some
          ∙ ap (λ (c : ℕ). new c j) channel

      before : (k j : ℕ) → j < first → (t : Bool) → ltb k (4 * g + 4) ≡ t → number_at xs k j ≡ number_at old k j
      before k j u true e =
          let low : k < 4 * g + 4 = ltb-true k (4 * g + 4) e in
          r.below (136 * (k / 4) + k % 4 + 4 * j) (omega arith)
      before k j u false e =
          let high : 4 * g + 4 ≤ k = ltb-false k (4 * g + 4) e in
          r.above (136 * (k / 4) + k % 4 + 4 * j) (omega arith)

-- ---- some channels, then those after them
module _ {lo mid hi first : ℕ} {Some : ℕ → Type 0} {new own : ℕ → ℕ → Float} {old xs next : List Float}
    (r : Put lo mid first Some new old xs) (s : Put mid hi first Some own xs next) where
  pub channels_on : lo ≤ mid → mid ≤ hi → ((k j : ℕ) → mid ≤ k → k < hi → own k j ≡ new k j) → Put lo hi first Some new old next
  channels_on low high same =
      record {
        long = s.long ∙ r.long;
        inside = λ k j a b lo' u some. one k j a b lo' u some (ltb k mid) refl;
        below = λ k j a u. s.below k j (omega arith) u ∙ r.below k j a u;
        above = λ k j a u. s.above k j a u ∙ r.above k j (omega arith) u;
        before = λ k j u. s.before k j u ∙ r.before k j u;
      }
    where
      one : (k j : ℕ) → lo ≤ k → k < hi → first ≤ j → j < 34 → Some j → (t : Bool) → ltb k mid ≡ t → number_at next k j ≡ new k j
      one k j a b lo' u some true e =
          let early : k < mid = ltb-true k mid e in
          s.below k j early u ∙ r.inside k j a early lo' u some
      one k j a b lo' u some false e =
          let late : mid ≤ k = ltb-false k mid e in
          s.inside k j late b lo' u some ∙ same k j late b
