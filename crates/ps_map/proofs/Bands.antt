-- Every b(k) is a stereo band of its layout: one computed test over each table. Assumes nothing.
use mathlib.Core.Path.{◌≡◌, refl}
use mathlib.Core.Bool.{Bool, true, false, not}
use mathlib.Core.List.{List}
use Prim.Native.Nat.{ℕ, ◌<◌, ◌≤◌}
use native.Mathlib.Omega.{arith}
use borrow.Author.Tests.{ltb-true}
use lib.Dec.{T, ltb, ltb→lt, nltb→le}
use lib.ListN.{length, get_or, get_or-eq_default}
use Rattle.lists.specs.All.{all}
use Rattle.lists.proofs.Alls.{all_at}
use Rattle.layout.specs.declared.Layout.{Layout}
use Rattle.layout.specs.declared.Layout.TheVariants.{Bands20, Bands34}
use Rattle.layout.specs.Numbers.{bands_of}
use Rattle.ps_map.specs.Bands.{bands20, bands34, parameter_map, band_of}

tested : (l : Layout) → all (λ (b : ℕ). ltb b (bands_of l)) (parameter_map l) ≡ true
unfolding bands20 bands34
tested Bands20 = refl
tested Bands34 = refl

-- what a place has, and the 0 past the end
at_any_place : (n : ℕ) (t : List ℕ) → 0 < n → all (λ (b : ℕ). ltb b n) t ≡ true → (k : ℕ) → get_or t k 0 < n
at_any_place n t h e k = go (ltb k (length t)) (ltb→lt k (length t)) (nltb→le k (length t))
  where
    go : (inside : Bool) → (T inside → k < length t) → (T (not inside) → length t ≤ k) → get_or t k 0 < n
    go true a b = ltb-true (get_or t k 0) n (all_at (λ (b : ℕ). ltb b n) t k 0 (a tt) e)
    go false a b = rw (get_or-eq_default t 0 {n = k} (b tt)) h

pub band_small : (l : Layout) (k : ℕ) → band_of l k < bands_of l
band_small l k = at_any_place (bands_of l) (parameter_map l) (some l) (tested l) k
  where
    some : (l : Layout) → 0 < bands_of l
    some Bands20 = omega arith
    some Bands34 = omega arith
