-- `ps_decoder::frame` meets its contract: the state taken apart and put together again. Assumes nothing.
use mathlib.Core.Logic.{◌≢◌}
use native.Mathlib.Omega.{arith}
use Rattle.std.proofs.lemmas.Result.{err_from_is_err_and}
use Rattle.answer.specs.Number.{number_of}
use Rattle.ps_state.specs.Shape.{Shaped}
use Rattle.ps_decoder.specs.Frame.{call_of}
use Rattle.ps_decoder.proofs.Lent.{whole_told, whole_refused}
use Rattle.ps_decoder.proofs.frame.Goals as goal

pub returns-in_err-after : goal.returns-in_err-after
returns-in_err-after c =
    let shaped : Shaped c.args.state = let good = c.well_formed.0.1.1.1.1.1.1 in
    let decorr = good.1.0 in
    let stereo = good.1.1.0 in
    record {
      history = good.0.1.0.1;
      delays = decorr.1.1.1.0.1.0.1;
      plain = decorr.1.1.1.1.0.1.0.1;
      detectors = decorr.1.1.1.1.1.0.1.0.1;
      matrices = stereo.1.1.0.1.0.1;
      phases = stereo.1.1.1.0.1.0.1;
    } in
    let a = c.args in
    let call = call_of a.line.now a.input.now a.edge a.left.now a.right.now in
    let said = c.in_err-after.field-0.0 in
    let refused = c.in_err-after.ensures.refused in
    let other : number_of said ≢ 0 = λ z. omega (arith, refused, z) in
    let p = err_from_is_err_and c.from_residual.result c.from_residual.ensures.1 in
    let told = whole_refused a.state shaped call said c.lent_frame.new.sound c.lent_frame.new.left c.lent_frame.new.right other
    (rw (c.apart-carried.ensures, c.sound-sound.ensures) at c.in_err-after.ensures.told) in
    record { state = rw (p.1, p.2) told.0; refused = rw (p.1, p.2) refused; left = told.1.0; right = told.1.1 }

pub returns : goal.returns
returns c =
    let shaped : Shaped c.args.state = let good = c.well_formed.0.1.1.1.1.1.1 in
    let decorr = good.1.0 in
    let stereo = good.1.1.0 in
    record {
      history = good.0.1.0.1;
      delays = decorr.1.1.1.0.1.0.1;
      plain = decorr.1.1.1.1.0.1.0.1;
      detectors = decorr.1.1.1.1.1.0.1.0.1;
      matrices = stereo.1.1.0.1.0.1;
      phases = stereo.1.1.1.0.1.0.1;
    } in
    let a = c.args in
    let call = call_of a.line.now a.input.now a.edge a.left.now a.right.now in
    let told = whole_told a.state shaped call _ c.lent_frame.new.sound c.lent_frame.new.left c.lent_frame.new.right c.together.result
    c.together.ensures (rw (c.apart-carried.ensures, c.sound-sound.ensures) at c.in_ok-after.ensures.told) in
    record { state = told.0; refused = tt; left = told.1.0; right = told.1.1 }
