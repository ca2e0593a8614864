-- What holds of a layout's numbers, by the two layouts. Assumes nothing.
use mathlib.Core.Path.{◌≡◌, refl}
use Prim.Native.Nat.{◌+◌, ◌*◌, ◌≤◌, ◌<◌}
use native.Mathlib.Omega.{arith}
use Rattle.layout.specs.declared.Layout.{Layout}
use Rattle.layout.specs.declared.Layout.TheVariants.{Bands20, Bands34}
use Rattle.layout.specs.Numbers.{bands_of, channels_of, split_of, unsplit_from_of, all_pass_of, short_delay_of, groups_of}

pub record Bounds (l : Layout) : Type 0 where
  -- how many there are at most
  pub bands : bands_of l ≤ 34
  pub channels : channels_of l ≤ 91
  pub split : split_of l ≤ 5
  pub all_pass : all_pass_of l ≤ 50
  pub groups : groups_of l ≤ 13
  pub grouped : all_pass_of l ≤ 4 * groups_of l
  -- the channels in order: those of the split bands, then one for each QMF band, of which 23 and above are delays, 12 of 14 slots and 29 of one
  pub some_split : 0 < split_of l
  pub more : split_of l ≤ unsplit_from_of l
  pub passed : unsplit_from_of l ≤ all_pass_of l
  pub delayed : all_pass_of l + split_of l ≡ unsplit_from_of l + 23
  pub short : short_delay_of l ≡ all_pass_of l + 12
  pub last : channels_of l ≡ short_delay_of l + 29

pub bounds : (l : Layout) → Bounds l
bounds Bands20 =
    record {
      bands = omega arith;
      channels = omega arith;
      split = omega arith;
      all_pass = omega arith;
      groups = omega arith;
      grouped = omega arith;
      some_split = omega arith;
      more = omega arith;
      passed = omega arith;
      delayed = refl;
      short = refl;
      last = refl;
    }
bounds Bands34 =
    record {
      bands = omega arith;
      channels = omega arith;
      split = omega arith;
      all_pass = omega arith;
      groups = omega arith;
      grouped = omega arith;
      some_split = omega arith;
      more = omega arith;
      passed = omega arith;
      delayed = refl;
      short = refl;
      last = refl;
    }
