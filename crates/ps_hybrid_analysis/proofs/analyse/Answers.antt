-- `ps_hybrid_analysis::analyse` meets its contract: short input and lists without room are refused, and otherwise the split bands are written. Assumes nothing.
use mathlib.Core.Bool.{false}
use mathlib.Core.Path.{◌≡◌}
use Prim.Native.Nat.{◌+◌, ◌*◌}
use native.Mathlib.Omega.{arith}
use borrow.Author.Tests.{le-leb, lt-leb}
use lib.ListN.{length}
use Rattle.layout.specs.Numbers.{split_of, unsplit_from_of}
use Rattle.layout.proofs.Bounds.{bounds}
use Rattle.ps_hybrid_analysis.specs.Analysis.{enough}
use Rattle.ps_hybrid_analysis.proofs.Whole.{refused, done}
use Rattle.ps_hybrid_analysis.proofs.analyse.Goals as goal
use Rattle.ps_hybrid_analysis.proofs.analyse.Goals.{then-input-slots-via-then-input-slots, then-input-slots-via-else-input-slots+then-history-split, then-input-slots-via-else-input-slots+else-history-split+then-samples-unsplit_from}

pub returns-then-input-slots : goal.returns-then-input-slots
returns-then-input-slots c =
    let a = c.args in
    let n = c.slots.result in
    let short : enough a.layout a.history.now a.input.now a.samples.now n ≡ false =
    elim c.then-input-slots.branch [
      | then-input-slots-via-then-input-slots w ↦ rw (lt-leb (128 * (n + 6)) (length a.input.now) w.if-input-slots.true)
      | then-input-slots-via-else-input-slots+then-history-split w ↦
          rw (le-leb (128 * (n + 6)) (length a.input.now) w.if-input-slots.false, lt-leb (12 * split_of a.layout) (length a.history.now) (omega (arith, w.if-history-split.true, w.split.ensures)))
      | then-input-slots-via-else-input-slots+else-history-split+then-samples-unsplit_from w ↦
          rw (
            le-leb (128 * (n + 6)) (length a.input.now) w.if-input-slots.false,
            le-leb (12 * split_of a.layout) (length a.history.now) (omega (arith, w.if-history-split.false, w.split.ensures)),
            lt-leb (64 * unsplit_from_of a.layout) (length a.samples.now) (omega (arith, w.if-samples-unsplit_from.true, w.unsplit_from.ensures)),
          )
    ] in
    let all = refused a.layout a.history.now a.input.now a.samples.now n short in
    rw (← c.slots.ensures) (record { answer = all.0; history = all.1.0; samples = all.1.1 })

pub overflow_mul-split : goal.overflow_mul-split
overflow_mul-split c = let a = c.args in omega (arith, c.split.ensures, (bounds a.layout).split)

pub overflow_mul-unsplit_from : goal.overflow_mul-unsplit_from
overflow_mul-unsplit_from c =
    let l = c.args.layout in
    omega (arith, c.unsplit_from.ensures, (bounds l).passed, (bounds l).all_pass)

pub split_bands-requires : goal.split_bands-requires
split_bands-requires c =
    record {
      history_len = omega (arith, c.if-history-split.false, c.split.ensures);
      slots_in_bounds = (c.if-input-slots.false, omega (arith, c.if-samples-unsplit_from.false, c.unsplit_from.ensures));
    }

pub returns : goal.returns
returns c =
    let a = c.args in
    let all = done a.layout a.history.now a.input.now a.samples.now c.slots.result c.if-input-slots.false (omega (arith, c.if-history-split.false, c.split.ensures))
    (omega (arith, c.if-samples-unsplit_from.false, c.unsplit_from.ensures)) c.split_bands.ensures.history c.split_bands.ensures.samples in
    rw (← c.slots.ensures) (record { answer = all.0; history = all.1.0; samples = all.1.1 })
