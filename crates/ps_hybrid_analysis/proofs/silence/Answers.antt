-- `ps_hybrid_analysis::silence` meets its contract: after the turn k the channels before k are 0. Assumes nothing.
use mathlib.Core.Path.{◌≡◌}
use Prim.Native.Nat.{◌+◌, ◌-◌, ◌*◌}
use native.Mathlib.Omega.{arith}
use Rattle.standard.specs.Numbers.{nought}
use Rattle.ps_hybrid_analysis.proofs.Channels.{width, lent_long, written_none, written_lent, written_on}
use Rattle.ps_hybrid_analysis.proofs.silence.Goals as goal

pub loop-k-init : goal.loop-k-init
loop-k-init c = record { after = omega arith; within = omega arith; written = written_none _ _ _ _ }

pub slice_bounds-silence_run-end : goal.slice_bounds-silence_run-end
slice_bounds-silence_run-end c = omega (arith, c.loop-k.invariant.written.long)

pub silence_run-requires : goal.silence_run-requires
silence_run-requires c =
    let k = c.loop-k.k in
    lent_long k (64 * k + 64 - 64 * k) c.loop-k.samples (width _ _) (omega (arith, c.loop-k.invariant.written.long, c.requires))

pub loop-k-preserved : goal.loop-k-preserved
loop-k-preserved c =
    let k = c.loop-k.k in
    record {
      after = omega arith;
      within = omega arith;
      written =
          written_on c.loop-k.invariant.written
          (written_lent c.args.slots.count k (64 * k + 64 - 64 * k) (λ k n. nought) c.loop-k.samples c.silence_run.new.run (width _ _)
          (omega (arith, c.loop-k.invariant.written.long, c.requires)) (omega arith) c.silence_run.ensures)
          (omega arith) (omega arith) (omega arith);
    }

pub shape_of-samples : goal.shape_of-samples
shape_of-samples c = c.loop-k.invariant.written.long

pub returns : goal.returns
returns c =
    let all : c.loop-k.k ≡ c.args.to = omega arith in
    rw all at c.loop-k.invariant.written
