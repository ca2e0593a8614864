-- `ps_hybrid_analysis::plan::channel` meets its contract: with 34 stereo bands a QMF band's filters stand in order in its span. Assumes nothing.
use mathlib.Core.Path.{sym}
use Prim.Native.Nat.{◌<◌}
use native.Mathlib.Omega.{arith}
use Rattle.standard.specs.Hybrid.{prototype_for}
use Rattle.standard.proofs.Spans.{spans}
use Rattle.ps_hybrid_analysis.proofs.Spans.{filters_most, channel_of_34, channel_few}
use Rattle.ps_hybrid_analysis.proofs.plan.channel.Goals as goal

pub channel_of_71-requires : goal.channel_of_71-requires
channel_of_71-requires c =
    let a = c.args in
    omega (arith, filters_most (prototype_for a.layout a.p))

pub overflow_add-result : goal.overflow_add-result
overflow_add-result c =
    let a = c.args in
    omega (arith, c.first_channel.ensures, (spans a.layout a.p).few, filters_most (prototype_for a.layout a.p))

pub returns-in-Bands20 : goal.returns-in-Bands20
returns-in-Bands20 c =
    channel_few c.args.layout c.args.p c.args.q _ c.requires.0 c.requires.1 (rw c.in-Bands20.is c.channel_of_71.ensures)

pub returns-in-Bands34 : goal.returns-in-Bands34
returns-in-Bands34 c =
    let told = c.in-Bands34.is in
    let inside : c.args.p < 5 = rw told at c.requires.0 in
    channel_few c.args.layout c.args.p c.args.q _ c.requires.0 c.requires.1 (rw (c.first_channel.ensures, told) (sym (channel_of_34 _ _ inside)))
