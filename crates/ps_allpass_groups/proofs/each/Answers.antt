-- `ps_allpass_groups::each` meets its contract: after g turns g groups are one slot further, and the others as they were. Assumes nothing.
use mathlib.Core.Bool.{Bool}
use mathlib.Core.Path.{◌≡◌}
use mathlib.Core.List.{List}
use Prim.Native.Nat.{ℕ, ◌+◌, ◌*◌, ◌-◌, ◌≤◌}
use borrow.Author.Rules.{rules}
use native.Mathlib.Omega.{arith}
use lib.Ieee.{Float}
use lib.ListN.{length}
use Rattle.layout.specs.declared.Layout.{Layout}
use Rattle.layout.specs.Numbers.{groups_of}
use Rattle.ps_allpass_groups.proofs.More.{SoFar, none, more, all}
use Rattle.ps_allpass_groups.proofs.each.Goals as goal

pub loop-g-init : goal.loop-g-init
loop-g-init c =
    let a = c.args in
    let is = c.groups-count.ensures in
    record {
      within = omega arith;
      room = omega (arith, is, c.requires.0);
      desks_room = omega (arith, is, c.requires.1);
      same = is;
      sofar = none a.layout a.turn a.t a.held a.delays.now a.desks.now;
    }

pub loop-g-preserved : goal.loop-g-preserved
loop-g-preserved c =
    let l = c.loop-g in
    let a = c.args in
    let taken = c.loop-g-test.true in
    let room : 112 * l.g + 112 ≤ length l.delays = omega (arith, taken, l.invariant.room) in
    let desks_room : 136 * l.g + 136 ≤ length l.desks = omega (arith, taken, l.invariant.desks_room) in
    record {
      within = omega (arith, taken);
      room = omega (arith, l.invariant.room);
      desks_room = omega (arith, l.invariant.desks_room);
      same = l.invariant.same;
      sofar =
          more a.layout a.turn a.t a.held a.delays.now a.desks.now l.g l.delays l.desks c.group.new.part c.group.new.desk room desks_room
          (search rules) (search rules) l.invariant.sofar c.marks.result c.marks.ensures c.group.ensures;
    }

pub shape_of-delays : goal.shape_of-delays
shape_of-delays c = c.loop-g.invariant.sofar.long

pub shape_of-desks : goal.shape_of-desks
shape_of-desks c = c.loop-g.invariant.sofar.wide

pub returns : goal.returns
returns c =
    let l = c.loop-g in
    let a = c.args in
    let whole : l.g ≡ groups_of a.layout = omega (arith, l.invariant.within, l.invariant.same) in
    all a.layout a.turn a.t a.held a.delays.now a.desks.now l.g l.delays l.desks whole l.invariant.sofar
