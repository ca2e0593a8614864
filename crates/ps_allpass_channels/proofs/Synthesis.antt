-- The QMF bands of the all-pass channels read these channels alone. Assumes nothing.
use Prim.Native.Nat.{ℕ, zero, suc, ◌+◌, ◌-◌, ◌<◌}
use native.Mathlib.Nat.{le_refl}
use native.Mathlib.Omega.{arith}
use mathlib.Core.Path.{◌≡◌, refl, ap₂}
use mathlib.Core.Bool.{Bool, true, false, cond}
use lib.Dec.{ltb}
use Rattle.complex.specs.declared.Complex.{Complex}
use Rattle.complex.specs.Operations.{sum}
use Rattle.layout.specs.declared.Layout.{Layout}
use Rattle.layout.specs.Numbers.{split_of, unsplit_from_of, all_pass_of, first_channel_of}
use Rattle.layout.proofs.Bounds.{bounds}
use Rattle.standard.specs.Hybrid.{added_to, synthesised}
use Rattle.standard.proofs.Spans.{spans}

added_same : (y z : ℕ → Complex) (from count : ℕ) → ((i : ℕ) → i < count → y (from + i) ≡ z (from + i)) → added_to y from count ≡ added_to z from count
unfolding added_to
added_same y z from zero same = refl
added_same y z from (suc count) same = ap₂ sum (added_same y z from count (λ i u. same i (omega arith))) (same count (le_refl (suc count)))

pub synthesised_same : (l : Layout) (y z : ℕ → Complex) → ((k : ℕ) → k < all_pass_of l → y k ≡ z k) → (q : ℕ) → q < 23 → synthesised l y q ≡ synthesised l z q
unfolding synthesised
synthesised_same l y z same q h = go (ltb q (split_of l))
  where
    go : (t : Bool)
        → cond t (added_to y (first_channel_of l q) (first_channel_of l (suc q) - first_channel_of l q)) (y (q + unsplit_from_of l - split_of l))
        ≡ cond t (added_to z (first_channel_of l q) (first_channel_of l (suc q) - first_channel_of l q)) (z (q + unsplit_from_of l - split_of l))
    go true =
        added_same y z (first_channel_of l q) (first_channel_of l (suc q) - first_channel_of l q)
        (λ i u. same (first_channel_of l q + i) (omega (arith, (spans l (suc q)).most, (bounds l).passed)))
    go false = same (q + unsplit_from_of l - split_of l) (omega (arith, (bounds l).delayed, (bounds l).more, (bounds l).passed))
