-- `ps_decorr_transient::add_powers` meets its contract: each turn adds one channel more, and the channels of the samples and those of the input are all.
-- Assumes nothing.
use mathlib.Core.Path.{◌≡◌}
use mathlib.Core.List.{List}
use Prim.Native.Nat.{ℕ, ◌+◌, ◌-◌, ◌*◌, ◌<◌, ◌≤◌}
use native.Mathlib.Omega.{arith}
use lib.Ieee.{Float}
use lib.ListN.{length}
use Rattle.layout.specs.declared.Layout.{Layout}
use Rattle.layout.specs.Numbers.{channels_of, split_of, unsplit_from_of}
use Rattle.layout.proofs.Bounds.{bounds}
use Rattle.ps_decorr_transient.proofs.Powers.{summed_none, summed_more, powers_all, band_within}
use Rattle.ps_decorr_transient.proofs.add_powers.Goals as goal

-- the layout's numbers
record Fitting (unsplit channels split slots : ℕ) (samples input : List Float) : Type 0 where
  pub runs : 64 * unsplit ≤ length samples
  pub rows : 128 * slots ≤ length input
  pub few : slots ≤ 32
  pub below : unsplit ≤ 32
  pub above : unsplit ≤ channels
  pub places : channels ≤ 91
  pub columns : channels + split ≤ unsplit + 64

fitting : (l : Layout) (slots : ℕ) (samples input : List Float) {unsplit channels split : ℕ} → unsplit ≡ unsplit_from_of l → channels ≡ channels_of l → split ≡ split_of l
    → 64 * unsplit_from_of l ≤ length samples → 128 * slots ≤ length input → slots ≤ 32 → Fitting unsplit channels split slots samples input
fitting l slots samples input u v w runs rows few =
    let known = bounds l in
    record {
      runs = omega arith;
      rows = rows;
      few = few;
      below = omega (arith, known);
      above = omega (arith, known);
      places = omega (arith, known);
      columns = omega (arith, known);
    }

pub clear-requires : goal.clear-requires
clear-requires c = omega (arith, c.bands.ensures, c.requires)

pub loop-k-init : goal.loop-k-init
loop-k-init c = (omega arith, summed_none _ _ _ _ _)

pub bounds-map-k : goal.bounds-map-k
bounds-map-k c =
    let a = c.args in
    let fits = fitting a.layout a.slots a.samples.now a.input.now c.unsplit_from-unsplit.ensures c.channels-channels.ensures c.split-split.ensures (omega (arith, c.requires)) (omega (arith, c.requires)) (omega (arith, c.requires)) in
    omega (arith, fits, c.loop-k.invariant.0)

pub overflow_mul-k : goal.overflow_mul-k
overflow_mul-k c =
    let a = c.args in
    let fits = fitting a.layout a.slots a.samples.now a.input.now c.unsplit_from-unsplit.ensures c.channels-channels.ensures c.split-split.ensures (omega (arith, c.requires)) (omega (arith, c.requires)) (omega (arith, c.requires)) in
    omega (arith, fits)

pub add_channel-requires : goal.add_channel-requires
add_channel-requires c =
    let a = c.args in
    let k = c.loop-k.k in
    let map = c.parameter_map-map in
    let fits = fitting a.layout a.slots a.samples.now a.input.now c.unsplit_from-unsplit.ensures c.channels-channels.ensures c.split-split.ensures (omega (arith, c.requires)) (omega (arith, c.requires)) (omega (arith, c.requires)) in
    let row : 32 * c.from.result + 32 ≤ length c.loop-k.gains =
    omega (arith, c.from.ensures, band_within a.layout map.result k map.ensures, c.requires, c.clear.ensures.long, c.loop-k.invariant.1.long) in
    let places : (n : ℕ) → n < a.slots → 1 * n + 64 * k + 32 < length a.samples.now = λ n u. omega (arith, fits, c.loop-k-test.true) in
    (row, fits.few, places)

pub loop-k-preserved : goal.loop-k-preserved
loop-k-preserved c =
    (omega arith, summed_more c.loop-k.invariant.1 (rw c.from.ensures at c.add_channel.ensures) (omega arith) (omega (arith, c.requires)))

pub loop-k-2-init : goal.loop-k-2-init
loop-k-2-init c =
    let a = c.args in
    let fits = fitting a.layout a.slots a.samples.now a.input.now c.unsplit_from-unsplit.ensures c.channels-channels.ensures c.split-split.ensures (omega (arith, c.requires)) (omega (arith, c.requires)) (omega (arith, c.requires)) in
    (omega arith, omega (arith, fits), summed_none _ _ _ _ _)

pub bounds-map-k-in-loop-k-2 : goal.bounds-map-k-in-loop-k-2
bounds-map-k-in-loop-k-2 c =
    let a = c.args in
    let fits = fitting a.layout a.slots a.samples.now a.input.now c.unsplit_from-unsplit.ensures c.channels-channels.ensures c.split-split.ensures (omega (arith, c.requires)) (omega (arith, c.requires)) (omega (arith, c.requires)) in
    omega (arith, fits, c.loop-k-2-test.true)

pub overflow_add-q : goal.overflow_add-q
overflow_add-q c =
    let a = c.args in
    let fits = fitting a.layout a.slots a.samples.now a.input.now c.unsplit_from-unsplit.ensures c.channels-channels.ensures c.split-split.ensures (omega (arith, c.requires)) (omega (arith, c.requires)) (omega (arith, c.requires)) in
    omega (arith, fits, c.loop-k-2-test.true)

pub overflow_mul-q : goal.overflow_mul-q
overflow_mul-q c =
    let a = c.args in
    let fits = fitting a.layout a.slots a.samples.now a.input.now c.unsplit_from-unsplit.ensures c.channels-channels.ensures c.split-split.ensures (omega (arith, c.requires)) (omega (arith, c.requires)) (omega (arith, c.requires)) in
    omega (arith, fits, c.loop-k-2-test.true)

pub add_channel-requires-in-loop-k-2 : goal.add_channel-requires-in-loop-k-2
add_channel-requires-in-loop-k-2 c =
    let a = c.args in
    let k = c.loop-k-2.k in
    let q = k + c.split-split.result - c.unsplit_from-unsplit.result in
    let map = c.parameter_map-map in
    let fits = fitting a.layout a.slots a.samples.now a.input.now c.unsplit_from-unsplit.ensures c.channels-channels.ensures c.split-split.ensures (omega (arith, c.requires)) (omega (arith, c.requires)) (omega (arith, c.requires)) in
    let row : 32 * c.from-in-loop-k-2.result + 32 ≤ length c.loop-k-2.gains =
    omega (arith, c.from-in-loop-k-2.ensures, band_within a.layout map.result k map.ensures, c.requires, c.clear.ensures.long, c.loop-k.invariant.1.long, c.loop-k-2.invariant.2.long) in
    let places : (n : ℕ) → n < a.slots → 128 * n + 2 * q + 1 < length a.input.now = λ n u. omega (arith, fits, c.loop-k-2-test.true, c.loop-k-2.invariant.0) in
    (row, fits.few, places)

pub loop-k-2-preserved : goal.loop-k-2-preserved
loop-k-2-preserved c =
    (omega arith, omega arith, summed_more c.loop-k-2.invariant.2 (rw c.from-in-loop-k-2.ensures at c.add_channel-in-loop-k-2.ensures) c.loop-k-2.invariant.0 (omega (arith, c.requires)))

pub returns : goal.returns
returns c =
    let p = c.unsplit_from-unsplit.ensures in
    let last : c.loop-k.k ≡ c.unsplit_from-unsplit.result = omega (arith, c.loop-k.invariant.0, c.loop-k-test.false) in
    let last2 : c.loop-k-2.k ≡ c.channels-channels.result = omega (arith, c.loop-k-2.invariant, c.loop-k-2-test.false) in
    let one = (rw (last, p) at c.loop-k.invariant.1) in
    let two = (rw (last2, p, c.channels-channels.ensures, c.split-split.ensures) at c.loop-k-2.invariant.2) in
    powers_all c.args.layout c.args.samples.now c.args.input.now c.args.slots (omega (arith, c.requires)) c.parameter_map-map.ensures c.bands.ensures c.clear.ensures one two
