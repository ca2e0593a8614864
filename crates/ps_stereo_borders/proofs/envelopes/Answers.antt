-- `ps_stereo_borders::envelopes` meets its contract: each turn writes the next border of every course and moves the phase indices. Assumes nothing.
use mathlib.Core.Path.{◌≡◌, refl, ◌∙◌}
use native.Mathlib.Omega.{arith}
use lib.ListN.{length}
use Rattle.ps_stereo_borders.proofs.Turns.{turn_none, turn_more, turn_all}
use Rattle.ps_stereo_borders.proofs.envelopes.Goals as goal

pub loop-e-init : goal.loop-e-init
loop-e-init c =
    let a = c.args in
    record {
      within = omega arith;
      few = c.requires.0;
      turn = λ h modes config. turn_none a.frame.layout h a.frame.indices a.directions.now a.phases.now a.rows.now c.requires.1;
      phases_room = c.requires.1;
      rows_room = c.requires.2;
      phases_long = refl;
      rows_long = refl;
    }

pub loop-e-preserved : goal.loop-e-preserved
loop-e-preserved c =
    let v = c.loop-e.invariant in
    let phases_long : length c.envelope.new.phases ≡ length c.loop-e.phases = c.envelope.auto.phases in
    let rows_long : length c.envelope.new.rows ≡ length c.loop-e.rows = c.envelope.auto.rows in
    record {
      within = omega (arith, c.loop-e-test.true);
      few = v.few;
      turn = λ h modes config.
          turn_more (v.turn h modes config) (omega (arith, v.few, c.loop-e-test.true)) v.phases_room v.rows_room c.table-coefficients.ensures modes (c.cues-cues.ensures ∙ rw config)
          c.envelope.ensures.phases c.envelope.ensures.rows;
      phases_room = rw phases_long v.phases_room;
      rows_room = rw rows_long v.rows_room;
      phases_long = phases_long ∙ v.phases_long;
      rows_long = rows_long ∙ v.rows_long;
    }

pub shape_of-phases : goal.shape_of-phases
shape_of-phases c = c.loop-e.invariant.phases_long

pub shape_of-rows : goal.shape_of-rows
shape_of-rows c = c.loop-e.invariant.rows_long

pub returns : goal.returns
returns c =
    turn_all (c.loop-e.invariant.turn c.args.frame.header c.modes_of-modes.ensures refl) c.args.count (omega (arith, c.loop-e.invariant.within, c.loop-e-test.false))
