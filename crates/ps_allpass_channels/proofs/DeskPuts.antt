-- Numbers written on the desks: one after the other for a channel, then channel after channel. Assumes nothing.
use mathlib.Core.Path.{◌≡◌, refl, ◌∙◌}
use mathlib.Core.Bool.{Bool, true, false}
use mathlib.Core.Logic.{◌≢◌}
use mathlib.Core.List.{List}
use Prim.Native.Nat.{ℕ, ◌+◌, ◌*◌, ◌/◌, ◌%◌, ◌≤◌, ◌<◌}
use native.Mathlib.Omega.{arith}
use borrow.Author.Tests.{eqb-true, eqb-false}
use lib.Dec.{eqb}
use lib.Ieee.{Float, nan}
use lib.ListN.{length, set, length-set}
use lib.Seq.{get_or-set_same, get_or-set_other}
use Rattle.ps_allpass_channels.specs.DeskNumbers.{number_at, Put}

-- two places are one only if they are one channel's and one number's
same_channel : (k c m j : ℕ) → m < 34 → j < 34 → 136 * (c / 4) + c % 4 + 4 * j ≡ 136 * (k / 4) + k % 4 + 4 * m → c ≡ k
same_channel k c m j u w e = omega arith

same_number : (k c m j : ℕ) → m < 34 → j < 34 → 136 * (c / 4) + c % 4 + 4 * j ≡ 136 * (k / 4) + k % 4 + 4 * m → j ≡ m
same_number k c m j u w e = omega arith

-- ---- numbers of one channel
pub put_none : (k first : ℕ) (new : ℕ → ℕ → Float) (xs : List Float) → Put k (k + 1) first (λ j. j < first) new xs xs
put_none k first new xs =
    record {
      long = refl;
      inside = λ c j a b low u some. absurd (omega arith);
      below = λ c j a u. refl;
      above = λ c j a u. refl;
      before = λ c j u. refl;
    }

module _ {k first : ℕ} {Some : ℕ → Type 0} {new : ℕ → ℕ → Float} {old xs : List Float} (r : Put k (k + 1) first Some new old xs) where
  -- number m is stored, at a place that the code writes in its own way
  pub put_more : (More : ℕ → Type 0) (m place : ℕ) (v : Float) → k < 52 → length old ≡ 1768 → first ≤ m → m < 34 → place ≡ 136 * (k / 4) + k % 4 + 4 * m
      → v ≡ new k m → ((j : ℕ) → first ≤ j → More j → j ≢ m → Some j) → Put k (k + 1) first More new old (set xs place v)
  put_more More m place v inside-desks whole low high at is rest =
      record {
        long = simp length-set r.long;
        inside = λ c j a b lo u more. one c j (omega arith) lo u more (eqb j m) refl;
        below = λ c j a u. other c j (λ (e : 136 * (c / 4) + c % 4 + 4 * j ≡ place). omega (arith, same_channel k c m j high u (e ∙ at))) ∙ r.below c j a u;
        above = λ c j a u. other c j (λ (e : 136 * (c / 4) + c % 4 + 4 * j ≡ place). omega (arith, same_channel k c m j high u (e ∙ at))) ∙ r.above c j a u;
        before = λ c j u. other c j (λ (e : 136 * (c / 4) + c % 4 + 4 * j ≡ place). omega (arith, same_number k c m j high (omega arith) (e ∙ at))) ∙ r.before c j u;
      }
    where
      other : (c j : ℕ) → 136 * (c / 4) + c % 4 + 4 * j ≢ place → number_at (set xs place v) c j ≡ number_at xs c j
      other c j ne = get_or-set_other xs place (136 * (c / 4) + c % 4 + 4 * j) v nan ne

      one : (c j : ℕ) → c ≡ k → first ≤ j → j < 34 → More j → (t : Bool) → eqb j m ≡ t → number_at (set xs place v) c j ≡ new c j
      one c j e lo u more true s =
          let here : j ≡ m = eqb-true j m s in
          rw (e, here, ← at) (get_or-set_same xs place v nan (omega (arith, r.long)) ∙ is)
      one c j e lo u more false s =
          let apart : j ≢ m = eqb-false j m s in
          other c j (λ (h : 136 * (c / 4) + c % 4 + 4 * j ≡ place). apart (same_number k c m j high u (h ∙ at)))
          ∙ r.inside c j (omega arith) (omega arith) lo u (rest j lo more apart)

  -- all that were asked for
  pub put_all : (All : ℕ → Type 0) → ((j : ℕ) → first ≤ j → All j → Some j) → Put k (k + 1) first All new old xs
  put_all All every =
      record { long = r.long; inside = λ c j a b lo u all. r.inside c j a b lo u (every j lo all); below = r.below; above = r.above; before = r.before }

-- ---- channel after channel
pub channels_none : (lo first : ℕ) (Some : ℕ → Type 0) (new : ℕ → ℕ → Float) (xs : List Float) → Put lo lo first Some new xs xs
channels_none lo first Some new xs =
    record {
      long = refl;
      inside = λ c j a b low u some. absurd (omega arith);
      below = λ c j a u. refl;
      above = λ c j a u. refl;
      before = λ c j u. refl;
    }

module _ {lo k first : ℕ} {Some : ℕ → Type 0} {new own : ℕ → ℕ → Float} {old xs next : List Float} (r : Put lo k first Some new old xs) (s : Put k (k + 1) first Some own xs next) where
  pub channels_more : lo ≤ k → ((j : ℕ) → own k j ≡ new k j) → Put lo (k + 1) first Some new old next
  channels_more low same =
      record {
        long = s.long ∙ r.long;
        inside = λ c j a b lo' u some. one c j a b lo' u some (eqb c k) refl;
        below = λ c j a u. s.below c j (omega arith) u ∙ r.below c j a u;
        above = λ c j a u. s.above c j a u ∙ r.above c j (omega arith) u;
        before = λ c j u. s.before c j u ∙ r.before c j u;
      }
    where
      one : (c j : ℕ) → lo ≤ c → c < k + 1 → first ≤ j → j < 34 → Some j → (t : Bool) → eqb c k ≡ t → number_at next c j ≡ new c j
      one c j a b low' u some true e =
          let here : c ≡ k = eqb-true c k e in
          rw here (s.inside k j (omega arith) (omega arith) low' u some ∙ same j)
      one c j a b low' u some false e =
          let apart : c ≢ k = eqb-false c k e in
          s.below c j (omega arith) u ∙ r.inside c j a (omega arith) low' u some
