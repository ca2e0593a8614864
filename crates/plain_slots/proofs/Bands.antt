-- The QMF bands of a side: which case the lists' lengths pick, and what the two loops leave. Assumes nothing.
use mathlib.Core.Path.{◌≡◌, refl}
use mathlib.Core.List.{List}
use Prim.Native.Nat.{ℕ, suc, ◌+◌, ◌-◌, ◌*◌, ◌<◌, ◌≤◌}
use borrow.Author.Tests.{lt-ltb, le-ltb, lt-leb, le-leb}
use native.Mathlib.Numerals.{add-one}
use native.Mathlib.Omega.{arith}
use lib.Ieee.{Float}
use lib.ListN.{length}
use Rattle.complex.specs.declared.Complex.{Complex}
use Rattle.layout.specs.declared.Layout.{Layout}
use Rattle.layout.specs.Numbers.{channels_of, split_of, unsplit_from_of, first_channel_of}
use Rattle.standard.specs.Hybrid.{added_to, synthesised}
use Rattle.standard.proofs.Spans.{spans}
use Rattle.plain_slots.specs.Rows.{in_row, qmf_after}
use Rattle.plain_slots.proofs.Carried.{Carried, carried_both}

-- what the second loop puts
abbrev pub passed : List Float → ℕ → ℕ → ℕ → Complex
passed hybrid split unsplit q = in_row hybrid (q + unsplit - split)

-- ---- a split band's channels, by the code's numbers
module _ (l : Layout) (q from next : ℕ) (first : from ≡ first_channel_of l q) (after : next ≡ first_channel_of l (q + 1)) where
  last : next ≡ first_channel_of l (suc q)
  last = rw add-one at after

  pub rising : from ≤ next
  rising = omega (arith, first, last, (spans l q).rises)

  pub reached : next ≤ unsplit_from_of l
  reached = rw last (spans l (suc q)).most

  pub band_is : (y : ℕ → Complex) (v : Complex) → q < split_of l → v ≡ added_to y from (next - from) → v ≡ synthesised l y q
  unfolding synthesised
  band_is y v u is = rw (lt-ltb q (split_of l) u) (rw (first, last) at is)

module _ (l : Layout) (hybrid row : List Float) where
  pub short_hybrid : length hybrid < 2 * channels_of l → row ≡ qmf_after l hybrid row
  unfolding qmf_after
  short_hybrid h = rw (lt-leb (2 * channels_of l) _ h)

  module _ (whole : 2 * channels_of l ≤ length hybrid) where
    pub short_row : length row < 128 → row ≡ qmf_after l hybrid row
    unfolding qmf_after
    short_row h = rw (le-leb (2 * channels_of l) _ whole, lt-leb 128 _ h)

    pub together : {half next : List Float} → 128 ≤ length row → Carried (synthesised l (in_row hybrid)) 0 (split_of l) row half
        → Carried (passed hybrid (split_of l) (unsplit_from_of l)) (split_of l) 64 half next → next ≡ qmf_after l hybrid row
    unfolding qmf_after synthesised
    together h r s =
        rw (le-leb (2 * channels_of l) _ whole, le-leb 128 _ h)
        (carried_both (synthesised l (in_row hybrid)) 64 r s (λ i u. refl) (λ i u w. rw (le-ltb i (split_of l) u)))
