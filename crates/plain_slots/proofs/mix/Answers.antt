-- `plain_slots::mix` meets its contract: each turn puts both sides of one channel. Assumes nothing.
use mathlib.Core.Path.{◌≡◌, ap, ◌∙◌}
use mathlib.Core.List.{List}
use Prim.Native.Nat.{ℕ, ◌+◌, ◌*◌, ◌<◌, ◌≤◌}
use native.Mathlib.Omega.{arith}
use lib.Ieee.{Float}
use lib.ListN.{length}
use Rattle.layout.specs.declared.Layout.{Layout}
use Rattle.layout.specs.Numbers.{bands_of}
use Rattle.layout.proofs.Bounds.{bounds}
use Rattle.ps_map.specs.Bands.{band_of}
use Rattle.ps_map.proofs.Bands.{band_small}
use Rattle.plain_slots.proofs.Carried.{carried_none, carried_more}
use Rattle.plain_slots.proofs.Sides.{Read, New, left_is, right_is, late, short_runs, short_samples, short_decorrelated, short_left, short_right, filled}
use Rattle.plain_slots.proofs.mix.Goals as goal
use Rattle.plain_slots.proofs.mix.Goals.{
  then-n-gt31-via-then-n-gt31,
  then-n-gt31-via-else-n-gt31+then-runs-bands,
  then-n-gt31-via-else-n-gt31+else-runs-bands+then-samples-numbers,
  then-n-gt31-via-else-n-gt31+else-runs-bands+else-samples-numbers+then-decorrelated-numbers,
  then-n-gt31-via-else-n-gt31+else-runs-bands+else-samples-numbers+else-decorrelated-numbers+then-left-numbers,
  then-n-gt31-via-else-n-gt31+else-runs-bands+else-samples-numbers+else-decorrelated-numbers+else-left-numbers+then-right-numbers,
}

pub overflow_mul-numbers : goal.overflow_mul-numbers
overflow_mul-numbers c = omega (arith, c.channels-channels.ensures, (bounds c.args.layout).channels)

pub overflow_mul-bands : goal.overflow_mul-bands
overflow_mul-bands c = omega (arith, c.bands.ensures, (bounds c.args.layout).bands)

-- ---- what has no room

pub returns-then-n-gt31 : goal.returns-then-n-gt31
returns-then-n-gt31 c =
    let a = c.args in
    let e = c.channels-channels.ensures in
    let p : New a.layout a.n a.runs.now a.samples.now a.decorrelated.now a.left.now a.right.now a.left.now a.right.now =
    elim c.then-n-gt31.branch [
      | then-n-gt31-via-then-n-gt31 w ↦ late a.layout a.n a.runs.now a.samples.now a.decorrelated.now a.left.now a.right.now (omega (arith, w.if-n-gt31.true))
      | then-n-gt31-via-else-n-gt31+then-runs-bands w ↦ short_runs a.layout a.n a.runs.now a.samples.now a.decorrelated.now a.left.now a.right.now (omega (arith, w.if-n-gt31.false)) (rw w.bands.ensures at w.if-runs-bands.true)
      | then-n-gt31-via-else-n-gt31+else-runs-bands+then-samples-numbers w ↦ short_samples a.layout a.n a.runs.now a.samples.now a.decorrelated.now a.left.now a.right.now (omega (arith, w.if-n-gt31.false)) (rw w.bands.ensures at w.if-runs-bands.false) (rw e at w.if-samples-numbers.true)
      | then-n-gt31-via-else-n-gt31+else-runs-bands+else-samples-numbers+then-decorrelated-numbers w ↦ short_decorrelated a.layout a.n a.runs.now a.samples.now a.decorrelated.now a.left.now a.right.now (omega (arith, w.if-n-gt31.false)) (rw w.bands.ensures at w.if-runs-bands.false) (rw e at w.if-samples-numbers.false) (rw e at w.if-decorrelated-numbers.true)
      | then-n-gt31-via-else-n-gt31+else-runs-bands+else-samples-numbers+else-decorrelated-numbers+then-left-numbers w ↦ short_left a.layout a.n a.runs.now a.samples.now a.decorrelated.now a.left.now a.right.now (omega (arith, w.if-n-gt31.false)) (rw w.bands.ensures at w.if-runs-bands.false) (rw e at w.if-samples-numbers.false) (rw e at w.if-decorrelated-numbers.false) (rw e at w.if-left-numbers.true)
      | then-n-gt31-via-else-n-gt31+else-runs-bands+else-samples-numbers+else-decorrelated-numbers+else-left-numbers+then-right-numbers w ↦ short_right a.layout a.n a.runs.now a.samples.now a.decorrelated.now a.left.now a.right.now (omega (arith, w.if-n-gt31.false)) (rw w.bands.ensures at w.if-runs-bands.false) (rw e at w.if-samples-numbers.false) (rw e at w.if-decorrelated-numbers.false) (rw e at w.if-left-numbers.false) (rw e at w.if-right-numbers.true)
    ] in
    record { left = p.0; right = p.1 }

-- ---- the loop

pub loop-k-init : goal.loop-k-init
loop-k-init c =
    let small : c.args.n < 32 = omega (arith, c.if-n-gt31.false) in
    let bands_there : 256 * bands_of c.args.layout ≤ length c.args.runs.now = rw c.bands.ensures at c.if-runs-bands.false in
    let known = bounds c.args.layout in
    record {
      fits =
          record {
            small = small;
            bands = bands_there;
            most = known.bands;
            all = c.if-samples-numbers.false;
            others = c.if-decorrelated-numbers.false;
            left_room = c.if-left-numbers.false;
            right_room = c.if-right-numbers.false;
            few = omega (arith, c.channels-channels.ensures, known.channels);
          };
      within = omega arith;
      lefts = carried_none _ _ _;
      rights = carried_none _ _ _;
    }

-- the coefficients of a channel's band
module _ (l : Layout) (n k band : ℕ) (runs : List Float) (e : band ≡ band_of l k) (small : n < 32) where
  within : band < bands_of l
  within = omega (arith, band_small l k)

  -- the last coefficient that is read
  last : 256 * bands_of l ≤ length runs → 256 * band + n + 224 < length runs
  last there = omega (arith, within)

  few : bands_of l ≤ 34 → 256 * band + n + 224 < 8704
  few most = omega (arith, within)

pub band-requires : goal.band-requires
band-requires c =
    omega (arith, c.loop-k-test.true, c.loop-k.invariant.fits.few)

pub overflow_mul-at : goal.overflow_mul-at
overflow_mul-at c =
    let few = few c.args.layout c.args.n c.loop-k.k c.band.result c.args.runs.now c.band.ensures c.loop-k.invariant.fits.small c.loop-k.invariant.fits.most in
    omega (arith, few)

pub overflow_add-at : goal.overflow_add-at
overflow_add-at c =
    let few = few c.args.layout c.args.n c.loop-k.k c.band.result c.args.runs.now c.band.ensures c.loop-k.invariant.fits.small c.loop-k.invariant.fits.most in
    omega (arith, few)

pub overflow_add-at-in-loop-k : goal.overflow_add-at-in-loop-k
overflow_add-at-in-loop-k c =
    let few = few c.args.layout c.args.n c.loop-k.k c.band.result c.args.runs.now c.band.ensures c.loop-k.invariant.fits.small c.loop-k.invariant.fits.most in
    omega (arith, few)

pub overflow_add-at-in-loop-k-2 : goal.overflow_add-at-in-loop-k-2
overflow_add-at-in-loop-k-2 c =
    let few = few c.args.layout c.args.n c.loop-k.k c.band.result c.args.runs.now c.band.ensures c.loop-k.invariant.fits.small c.loop-k.invariant.fits.most in
    omega (arith, few)

pub overflow_add-at-in-loop-k-3 : goal.overflow_add-at-in-loop-k-3
overflow_add-at-in-loop-k-3 c =
    let few = few c.args.layout c.args.n c.loop-k.k c.band.result c.args.runs.now c.band.ensures c.loop-k.invariant.fits.small c.loop-k.invariant.fits.most in
    omega (arith, few)

pub overflow_mul-k : goal.overflow_mul-k
overflow_mul-k c =
    omega (arith, c.loop-k-test.true, c.loop-k.invariant.fits.few)

pub cell-s-requires : goal.cell-s-requires
cell-s-requires c =
    omega (arith, c.loop-k-test.true, c.loop-k.invariant.fits.all)

pub overflow_mul-k-in-loop-k : goal.overflow_mul-k-in-loop-k
overflow_mul-k-in-loop-k c =
    omega (arith, c.loop-k-test.true, c.loop-k.invariant.fits.few)

pub cell-d-requires : goal.cell-d-requires
cell-d-requires c =
    omega (arith, c.loop-k-test.true, c.loop-k.invariant.fits.others)

pub side-requires : goal.side-requires
side-requires c =
    let there = last c.args.layout c.args.n c.loop-k.k c.band.result c.args.runs.now c.band.ensures c.loop-k.invariant.fits.small c.loop-k.invariant.fits.bands in
    (omega (arith, there), omega (arith, there))

pub side-requires-in-loop-k : goal.side-requires-in-loop-k
side-requires-in-loop-k c =
    let there = last c.args.layout c.args.n c.loop-k.k c.band.result c.args.runs.now c.band.ensures c.loop-k.invariant.fits.small c.loop-k.invariant.fits.bands in
    (omega (arith, there), omega (arith, there))

pub put-requires : goal.put-requires
put-requires c =
    omega (arith, c.loop-k-test.true, c.loop-k.invariant.fits.left_room, c.loop-k.invariant.lefts.long)

pub put-requires-in-loop-k : goal.put-requires-in-loop-k
put-requires-in-loop-k c =
    omega (arith, c.loop-k-test.true, c.loop-k.invariant.fits.right_room, c.loop-k.invariant.rights.long)

pub overflow_step-k : goal.overflow_step-k
overflow_step-k c =
    omega (arith, c.loop-k-test.true, c.loop-k.invariant.fits.few)

pub loop-k-smaller : goal.loop-k-smaller
loop-k-smaller c =
    omega (arith, c.loop-k-test.true)

pub loop-k-preserved : goal.loop-k-preserved
loop-k-preserved c =
    let i = c.loop-k.invariant in
    let a = c.args in
    let more = c.loop-k-test.true in
    let seen : Read a.layout a.n a.runs.now a.samples.now a.decorrelated.now c.loop-k.k (256 * c.band.result + a.n) c.conjugated-marked.result
    c.cell-s.result c.cell-d.result =
    record {
      small = i.fits.small;
      place = ap (λ (b : ℕ). 256 * b + a.n) c.band.ensures;
      mark = c.conjugated-marked.ensures;
      sample = c.cell-s.ensures;
      other = c.cell-d.ensures;
    }
    in
    record {
      fits = i.fits;
      within = omega (arith, more);
      lefts =
          carried_more i.lefts c.side.result c.put.ensures (left_is seen c.side.ensures) (omega arith)
          (omega (arith, more, i.fits.left_room));
      rights =
          carried_more i.rights c.side-in-loop-k.result c.put-in-loop-k.ensures (right_is seen c.side-in-loop-k.ensures) (omega arith)
          (omega (arith, more, i.fits.right_room));
    }

pub shape_of-left : goal.shape_of-left
shape_of-left c = c.loop-k.invariant.lefts.long

pub shape_of-right : goal.shape_of-right
shape_of-right c = c.loop-k.invariant.rights.long

pub returns : goal.returns
returns c =
    let a = c.args in
    let small : c.args.n < 32 = omega (arith, c.if-n-gt31.false) in
    let bands_there : 256 * bands_of c.args.layout ≤ length c.args.runs.now = rw c.bands.ensures at c.if-runs-bands.false in
    let e = c.channels-channels.ensures in
    let last : c.loop-k.k ≡ c.channels-channels.result = omega (arith, c.loop-k.invariant.within, c.loop-k-test.false) in
    let both = last ∙ e in
    let p = filled a.layout a.n a.runs.now a.samples.now a.decorrelated.now a.left.now a.right.now small bands_there (rw e at c.if-samples-numbers.false) (rw e at c.if-decorrelated-numbers.false) (rw e at c.if-left-numbers.false) (rw e at c.if-right-numbers.false) (rw both at c.loop-k.invariant.lefts) (rw both at c.loop-k.invariant.rights) in
    record { left = p.0; right = p.1 }
