-- The kind of a channel, by where its number lies. Assumes nothing.
use mathlib.Core.Path.{◌≡◌}
use Prim.Native.Nat.{ℕ, ◌≤◌, ◌<◌}
use borrow.Author.Tests.{lt-ltb, le-ltb}
use Rattle.layout.specs.declared.Layout.{Layout}
use Rattle.layout.specs.declared.Kind.{Kind}
use Rattle.layout.specs.declared.Kind.TheVariants.{AllPass, Long, Short}
use Rattle.layout.specs.Numbers.{all_pass_of, short_delay_of, kind_of}

module _ (l : Layout) (k : ℕ) where
  pub is_all_pass : k < all_pass_of l → kind_of l k ≡ AllPass
  is_all_pass h = rw (lt-ltb k (all_pass_of l) h)

  pub is_long : all_pass_of l ≤ k → k < short_delay_of l → kind_of l k ≡ Long
  is_long h u = rw (le-ltb k (all_pass_of l) h, lt-ltb k (short_delay_of l) u)

  pub is_short : all_pass_of l ≤ k → short_delay_of l ≤ k → kind_of l k ≡ Short
  is_short h u = rw (le-ltb k (all_pass_of l) h, le-ltb k (short_delay_of l) u)
