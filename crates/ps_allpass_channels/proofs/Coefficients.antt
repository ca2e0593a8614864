-- The coefficients of a slot, from those of its region on the desks: they are those of the standard. Assumes nothing.
use Prim.Native.Nat.{ℕ, suc, ◌+◌, ◌<◌, ◌≤◌, min}
use native.Mathlib.Omega.{arith}
use mathlib.Core.Path.{◌≡◌, refl, sym, ap, ap₂, ◌∙◌}
use mathlib.Core.Bool.{Bool, true, false, cond}
use mathlib.Core.List.{List}
use borrow.Author.Tests.{lt-ltb, le-ltb, eqb-true, eqb-false}
use lib.Dec.{eqb, ltb}
use lib.IntN.{ℤ}
use lib.Ieee.{Float}
use lib.ListN.{length}
use Rattle.layout.specs.declared.Layout.{Layout}
use Rattle.limits.specs.Limits as limits
use Rattle.ps_allpass_groups.specs.Desk.{from_on, step_on, matrix_on}
use Rattle.ps_map.specs.Bands.{band_of}
use Rattle.ps_stereo_slots.specs.declared.Timing.{Timing}
use Rattle.ps_stereo_slots.specs.Envelopes.{region_of}
use Rattle.ps_stereo_slots.specs.Regions.{step_of, stepped}
use Rattle.ps_stereo_slots.specs.Slots.{borders_of, border_matrix}
use Rattle.ps_stereo_slots.proofs.Borders.{fraction_taken}
use Rattle.ps_stereo_slots.proofs.Located.{region_within, by_region}
use Rattle.standard.specs.declared.Matrix.{Matrix}
use Rattle.standard.specs.Interpolation.{fraction, towards, between, matrix_in}
use Rattle.ps_allpass_channels.specs.Channels.{matrix_then}
use Rattle.ps_allpass_channels.specs.Desks.{desk_of, lanes_of, Wayed}

-- from + (to - from) t, the step taken once
step_between : (from to : Matrix) (t : Float) → stepped from (step_of from to) t ≡ between from to t
unfolding between towards
step_between from to t = refl

module _ (l : Layout) (timing : Timing) (rows : List Float) (n : ℕ) (few : n < 32) (long : length timing.borders ≡ limits.envelopes) where
  abbrev count : ℕ
  count = min timing.count limits.envelopes

  abbrev region : ℕ
  region = region_of timing.borders count n

  abbrev share : Float
  share = fraction timing.borders (min region 3) n

  within : region ≤ count
  within = region_within timing.borders count n

  module _ (desks : List Float) (k : ℕ) (u : k < lanes_of l) (way : Wayed l rows region (min (region + 1) count) desks) where
    abbrev at : ℕ → Matrix
    at e = border_matrix rows (band_of l k) e

    exact : desk_of (matrix_on share (eqb region count)) desks k ≡ matrix_in (borders_of timing.borders timing.count) at n
    unfolding desk_of matrix_on
    exact = by (eqb region count) refl ∙ sym (by_region timing.borders timing.count long (fraction (borders_of timing.borders timing.count)) at n)
      where
        by : (b : Bool) → eqb region count ≡ b
            → cond b (desk_of from_on desks k) (stepped (desk_of from_on desks k) (desk_of step_on desks k) share)
            ≡ cond (ltb region count) (between (at region) (at (suc region)) (fraction (borders_of timing.borders timing.count) region n)) (at count)
        by true e =
            let last : region ≡ count = eqb-true region count e in
            rw (le-ltb region count (omega arith)) (way.from k u ∙ ap at last)
        by false e =
            let other = eqb-false region count e in
            let less : region < count = omega (arith, other, within) in
            let next : min (region + 1) count ≡ suc region = omega arith in
            let own : min region 3 ≡ region = omega arith in
            rw (lt-ltb region count less)
            (ap₂ (λ (f s : Matrix). stepped f s share) (way.from k u) (way.step k u)
            ∙ step_between (at region) (at (min (region + 1) count)) share
            ∙ ap₂ (λ (e : ℕ) (t : Float). between (at region) (at e) t) next
            (ap (λ (e : ℕ). fraction timing.borders e n) own ∙ sym (fraction_taken timing.borders count region n less)))

-- as the code has them
pub matrix_is : (l : Layout) (timing : Timing) (table : List ℤ) (samples gains rows input delays : List Float) (n count region : ℕ) (t : Float) → n < 32
    → length timing.borders ≡ limits.envelopes → count ≡ min timing.count limits.envelopes
    → region ≡ region_of timing.borders (min timing.count limits.envelopes) (min n 31) → t ≡ fraction timing.borders (min region 3) (min n 31)
    → (desks : List Float) (k : ℕ) → k < lanes_of l → Wayed l rows region (min (region + 1) count) desks
    → desk_of (matrix_on t (eqb region count)) desks k ≡ matrix_then l timing table samples gains rows input delays (band_of l k) n
unfolding matrix_then
matrix_is l timing table samples gains rows input delays n count region t few long counted located shared desks k u way =
    let same : min n 31 ≡ n = omega arith in
    rw (shared, located, counted, same) (exact l timing rows n few long desks k u (rw (located, counted, same) at way))
