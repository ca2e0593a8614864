-- `lefasumu::lefasumu_frame` meets its contract: the memory is stored after answer 0 alone. Assumes nothing.
use mathlib.Core.Path.{refl}
use native.Mathlib.Omega.{arith}
use Rattle.calls.specs.Call.{Call}
use Rattle.ps_decoder.specs.Frame.{call_of}
use Rattle.lefasumu.proofs.Calls.{call_refused, accepted, refused}
use Rattle.lefasumu.proofs.lefasumu_frame.Goals as goal

pub returns-then-memory-ne-MEMORY : goal.returns-then-memory-ne-MEMORY
returns-then-memory-ne-MEMORY c =
    let made : Call = call_of c.args.line.now c.args.input.now c.args.edge c.args.left.now c.args.right.now in
    call_refused c.args.memory.now made _ c.if-memory-ne-MEMORY.true c.told.ensures

pub returns-in-Ok : goal.returns-in-Ok
returns-in-Ok c =
    let made : Call = call_of c.args.line.now c.args.input.now c.args.edge c.args.left.now c.args.right.now in
    let f = c.lent_frame in
    accepted c.args.memory.now made c.load-carried.result _ f.new.sound _ _ _ c.if-memory-ne-MEMORY.false c.load-carried.ensures c.in-Ok.ensures.told
    f.auto.sound c.told-in-Ok.ensures refl _ c.store.ensures

pub returns-in-Err : goal.returns-in-Err
returns-in-Err c =
    let made : Call = call_of c.args.line.now c.args.input.now c.args.edge c.args.left.now c.args.right.now in
    let f = c.lent_frame in
    let some = c.in-Err.ensures.refused in
    refused c.args.memory.now made c.load-carried.result _ f.new.sound _ _ _ c.if-memory-ne-MEMORY.false c.load-carried.ensures c.in-Err.ensures.told
    f.auto.sound c.told-in-Err.ensures (λ z. omega (arith, some, z))
