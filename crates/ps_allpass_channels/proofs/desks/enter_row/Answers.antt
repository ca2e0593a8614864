-- `ps_allpass_channels::desks::enter_row` meets its contract: the bands up to the first whole desk, then five whole desks. Assumes nothing.
use mathlib.Core.Path.{◌≡◌, ap}
use mathlib.Core.List.{List}
use Prim.Native.Nat.{ℕ, ◌+◌, ◌-◌, ◌*◌, ◌≤◌, ◌<◌}
use native.Mathlib.Omega.{arith}
use lib.Ieee.{Float}
use Rattle.layout.proofs.Bounds.{bounds}
use Rattle.layout.specs.declared.Layout.{Layout}
use Rattle.layout.specs.Numbers.{split_of, unsplit_from_of, groups_of}
use Rattle.planar.specs.Frame.{qmf_at, qmf_band_of}
use Rattle.ps_allpass_channels.specs.Desks.{lanes_of}
use Rattle.ps_allpass_channels.specs.DeskNumbers.{sample_number, Put}
use Rattle.ps_allpass_channels.proofs.DeskRuns.{last_five, channels_on}
use Rattle.ps_allpass_channels.proofs.desks.enter_row.Goals as goal

module _ (l : Layout) (input : List Float) (n : ℕ) {old low desks : List Float} where
  whole : Put (unsplit_from_of l) (4 * (groups_of l - 5)) 27 (λ j. j < 29) (λ k. sample_number (qmf_at input n (k + split_of l - unsplit_from_of l))) old low
      → Put (4 * (groups_of l - 5)) (4 * (groups_of l - 5) + 20) 27 (λ j. j < 29) (λ k. sample_number (qmf_at input n (k + 5 - 4 * (groups_of l - 5)))) low desks
      → Put (unsplit_from_of l) (lanes_of l) 27 (λ j. j < 29) (λ k. sample_number (qmf_at input n (qmf_band_of l k))) old desks
  whole p q =
      let many = (last_five l).0 in
      let five = (last_five l).1 in
      let end : lanes_of l ≡ 4 * (groups_of l - 5) + 20 = omega (arith, many) in
      rw end (channels_on p q (omega (arith, many, five, (bounds l).split)) (omega arith)
      (λ k j a b. ap (λ (q : ℕ). sample_number (qmf_at input n q) j) (band k a)))
    where
      band : (k : ℕ) → 4 * (groups_of l - 5) ≤ k → k + 5 - 4 * (groups_of l - 5) ≡ k + split_of l - unsplit_from_of l
      band k a = omega (arith, a, (last_five l).0, (last_five l).1)

pub overflow_sub-first : goal.overflow_sub-first
overflow_sub-first c = omega (arith, c.groups-first.ensures, (last_five c.args.layout).0)

pub overflow_mul-first : goal.overflow_mul-first
overflow_mul-first c = omega (arith, c.groups-first.ensures, (bounds c.args.layout).groups)

pub enter_low-requires : goal.enter_low-requires
enter_low-requires c =
    let layout = c.args.layout in
    let b = bounds layout in
    let five = last_five layout in
    let is-unsplit = c.unsplit_from.ensures in
    let is-split = c.split.ensures in
    let is-groups = c.groups-first.ensures in (
      omega (arith, is-unsplit, is-split, b.more),
      omega (arith, is-unsplit, is-groups, five.0, five.1, b.split),
      omega (arith, is-groups, b.groups),
      c.requires.0,
      c.requires.1,
    )

pub enter_high-requires : goal.enter_high-requires
enter_high-requires c =
    (omega (arith, c.groups-first.ensures, (bounds c.args.layout).groups), c.requires.0, c.requires.1)

pub returns : goal.returns
returns c =
    let a = c.args in
    let p = rw (c.groups-first.ensures, c.split.ensures, c.unsplit_from.ensures) at c.enter_low.ensures in
    let q = rw c.groups-first.ensures at c.enter_high.ensures in
    whole a.layout a.input.now a.n p q
