-- `ps_hybrid_analysis::filter_band` meets its contract: the filters are joined over channels that are 0 by then. Assumes nothing.
use mathlib.Core.Path.{◌≡◌}
use Prim.Native.Nat.{suc}
use native.Mathlib.Numerals.{add-one}
use native.Mathlib.Omega.{arith}
use Rattle.planar.specs.Cells.{cell}
use Rattle.layout.specs.Numbers.{first_channel_of}
use Rattle.layout.proofs.Bounds.{bounds}
use Rattle.standard.proofs.Spans.{spans}
use Rattle.ps_hybrid_analysis.proofs.Split.{silenced, banded}
use Rattle.ps_hybrid_analysis.proofs.filter_band.Goals as goal

pub overflow_add-p : goal.overflow_add-p
overflow_add-p c = omega (arith, (bounds c.args.layout).split, c.requires.p_bound)

pub silence-requires : goal.silence-requires
silence-requires c =
    let l = c.args.layout in
    let p = c.args.p in
    let to : c.first_channel-to.result ≡ first_channel_of l (suc p) = rw (add-one p) at c.first_channel-to.ensures in (
      omega (arith, c.first_channel-from.ensures, to, (spans l p).rises),
      omega (arith, to, (spans l (suc p)).most, c.requires.room),
    )

pub modulate-requires : goal.modulate-requires
modulate-requires c =
    let p = c.args.p in
    record {
      prototype_value = (c.prototype_for-prototype.ensures, c.requires.p_bound);
      room = rw c.silence.ensures.long c.requires.room;
      by_index = silenced c.args.layout p c.silence.ensures c.first_channel-from.ensures (rw (add-one p) at c.first_channel-to.ensures);
    }

pub returns : goal.returns
returns c =
    let p = c.args.p in
    banded c.args.layout p (cell 44 c.args.band.run.now) c.prototype_for-prototype.result c.silence.ensures c.modulate.ensures c.first_channel-from.ensures
    (rw (add-one p) at c.first_channel-to.ensures) c.prototype_for-prototype.ensures
