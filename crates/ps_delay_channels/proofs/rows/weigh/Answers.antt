-- `ps_delay_channels::rows::weigh` meets its contract: after j turns the first j bands of both sides are weighed. Assumes nothing.
use mathlib.Core.Path.{◌≡◌}
use Prim.Native.Nat.{◌*◌, ◌<◌}
use native.Mathlib.Omega.{arith}
use lib.ListN.{length-set}
use Rattle.complex.specs.Operations.{scaled}
use Rattle.planar.specs.Cells.{cell}
use Rattle.planar.proofs.Pairs.{paired_none, paired_more}
use Rattle.ps_delay_channels.proofs.Slots.{left_drawn, right_drawn, left_drawn_lem, right_drawn_lem}
use Rattle.ps_delay_channels.proofs.rows.weigh.Goals as goal

pub loop-j-init : goal.loop-j-init
loop-j-init c = record { within = omega arith; lefts = paired_none _ _; rights = paired_none _ _ }

pub bounds-left-j-in-loop-j : goal.bounds-left-j-in-loop-j
bounds-left-j-in-loop-j c = simp length-set (omega (arith, c.loop-j.invariant.lefts.long))

pub bounds-right-j-in-loop-j : goal.bounds-right-j-in-loop-j
bounds-right-j-in-loop-j c = simp length-set (omega (arith, c.loop-j.invariant.rights.long))

pub loop-j-preserved : goal.loop-j-preserved
loop-j-preserved c =
    let a = c.args in
    let j = c.loop-j.j in
    let few : a.slot.n < 32 = c.requires.slot in
    let more : j < a.count = c.loop-j-test.true in
    let x = cell 1 a.slot.samples.now (2 * j) in
    let z = scaled (cell 1 a.slot.delayed.now (2 * j)) a.slot.factor in
    record {
      within = omega (arith, more);
      lefts =
          paired_more c.loop-j.invariant.lefts (left_drawn a.runs.now a.slot.n few x z) (left_drawn_lem a.runs.now a.slot.n few x z)
          (omega (arith, more, c.requires.samples_len.2));
      rights =
          paired_more c.loop-j.invariant.rights (right_drawn a.runs.now a.slot.n few x z) (right_drawn_lem a.runs.now a.slot.n few x z)
          (omega (arith, more, c.requires.samples_len.3));
    }

pub shape_of-left : goal.shape_of-left
shape_of-left c = c.loop-j.invariant.lefts.long

pub shape_of-right : goal.shape_of-right
shape_of-right c = c.loop-j.invariant.rights.long

pub returns : goal.returns
returns c =
    let all : c.loop-j.j ≡ c.args.count = omega (arith, c.loop-j.invariant.within) in
    record { left = rw all at c.loop-j.invariant.lefts.each; right = rw all at c.loop-j.invariant.rights.each }
