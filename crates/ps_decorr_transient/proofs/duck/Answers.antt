-- `ps_decorr_transient::duck` meets its contract: what the two passes over the rows leave is the definition's, and a list without room leaves all.
-- Assumes nothing.
use mathlib.Core.Path.{◌≡◌}
use mathlib.Core.Bool.{Bool, true, false}
use mathlib.Core.List.{List}
use Prim.Native.Nat.{ℕ, ◌*◌, ◌<◌, ◌≤◌, min}
use borrow.Author.Tests.{lt-leb, le-leb}
use lib.Ieee.{Float}
use lib.ListN.{length}
use Rattle.layout.specs.declared.Layout.{Layout}
use Rattle.layout.specs.Numbers.{bands_of, unsplit_from_of}
use Rattle.ps_decorr_transient.specs.Gains.{enough}
use Rattle.ps_decorr_transient.proofs.Ducks.{nothing_changes, new_detectors, new_gains}
use Rattle.ps_decorr_transient.proofs.duck.Goals as goal
use Rattle.ps_decorr_transient.proofs.duck.Goals.{
  then-input-count-via-then-input-count,
  then-input-count-via-else-input-count+then-samples-unsplit_from,
  then-input-count-via-else-input-count+else-samples-unsplit_from+then-gains-bands,
  then-input-count-via-else-input-count+else-samples-unsplit_from+else-gains-bands+then-detectors-bands,
}

-- ---- the tests one by one
module _ (l : Layout) (memory samples input gains : List Float) (count : ℕ) where
  abbrev has : Bool
  has = enough l memory samples input gains count

  short_input : length input < 128 * count → has ≡ false
  short_input h = rw (lt-leb (128 * count) _ h)

  module _ (slots : 128 * count ≤ length input) where
    short_samples : length samples < 64 * unsplit_from_of l → has ≡ false
    short_samples h = rw (le-leb (128 * count) _ slots, lt-leb (64 * unsplit_from_of l) _ h)

    module _ (channels : 64 * unsplit_from_of l ≤ length samples) where
      short_gains : length gains < 32 * bands_of l → has ≡ false
      short_gains h = rw (le-leb (128 * count) _ slots, le-leb (64 * unsplit_from_of l) _ channels, lt-leb (32 * bands_of l) _ h)

      module _ (bands : 32 * bands_of l ≤ length gains) where
        short_memory : length memory < 3 * bands_of l → has ≡ false
        short_memory h = rw (le-leb (128 * count) _ slots, le-leb (64 * unsplit_from_of l) _ channels, le-leb (32 * bands_of l) _ bands, lt-leb (3 * bands_of l) _ h)

        has_room : 3 * bands_of l ≤ length memory → has ≡ true
        has_room h = rw (le-leb (128 * count) _ slots, le-leb (64 * unsplit_from_of l) _ channels, le-leb (32 * bands_of l) _ bands, le-leb (3 * bands_of l) _ h)

pub returns-then-input-count : goal.returns-then-input-count
returns-then-input-count c =
    let s = c.args in
    let n = c.min-count.ensures in
    let e = c.bands-bands.ensures in
    let short : enough s.layout s.detectors.now s.samples.now s.input.now s.gains.now (min s.slots 32) ≡ false =
    elim c.then-input-count.branch [
      | then-input-count-via-then-input-count w ↦ short_input s.layout s.detectors.now s.samples.now s.input.now s.gains.now (min s.slots 32) (rw n at w.if-input-count.true)
      | then-input-count-via-else-input-count+then-samples-unsplit_from w ↦ short_samples s.layout s.detectors.now s.samples.now s.input.now s.gains.now (min s.slots 32) (rw n at w.if-input-count.false) (rw w.unsplit_from.ensures at w.if-samples-unsplit_from.true)
      | then-input-count-via-else-input-count+else-samples-unsplit_from+then-gains-bands w ↦ short_gains s.layout s.detectors.now s.samples.now s.input.now s.gains.now (min s.slots 32) (rw n at w.if-input-count.false) (rw w.unsplit_from.ensures at w.if-samples-unsplit_from.false) (rw e at w.if-gains-bands.true)
      | then-input-count-via-else-input-count+else-samples-unsplit_from+else-gains-bands+then-detectors-bands w ↦ short_memory s.layout s.detectors.now s.samples.now s.input.now s.gains.now (min s.slots 32) (rw n at w.if-input-count.false) (rw w.unsplit_from.ensures at w.if-samples-unsplit_from.false) (rw e at w.if-gains-bands.false) (rw e at w.if-detectors-bands.true)
    ] in
    let kept = nothing_changes s.layout s.detectors.now s.samples.now s.input.now s.gains.now (min s.slots 32) short in
    record { detectors = kept.0; gains = kept.1 }

pub returns : goal.returns
returns c =
    let s = c.args in
    let e = c.bands-bands.ensures in
    let n = c.min-count.ensures in
    let room = rw e at c.if-detectors-bands.false in
    let one = rw n at c.add_powers.ensures in
    let two = rw (e, n) at c.duck_rows.ensures in
    let given = has_room s.layout s.detectors.now s.samples.now s.input.now s.gains.now (min s.slots 32)
    (rw n at c.if-input-count.false) (rw c.unsplit_from.ensures at c.if-samples-unsplit_from.false)
    (rw e at c.if-gains-bands.false) room in
    record {
      detectors = new_detectors s.layout s.detectors.now s.samples.now s.input.now s.gains.now (min s.slots 32) _ _ _ one two given room;
      gains = new_gains s.layout s.detectors.now s.samples.now s.input.now s.gains.now (min s.slots 32) _ _ _ one two given;
    }
