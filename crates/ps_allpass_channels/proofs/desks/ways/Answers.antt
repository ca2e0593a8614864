-- `ps_allpass_channels::desks::ways` meets its contract: each turn lays the coefficients of one channel more. Assumes nothing.
use mathlib.Core.Path.{◌≡◌, ◌∙◌}
use Prim.Native.Nat.{◌+◌, ◌*◌, ◌≤◌, ◌<◌}
use native.Mathlib.Omega.{arith}
use lib.ListN.{length, get_or}
use Rattle.layout.proofs.Bounds.{bounds}
use Rattle.limits.specs.Limits as limits
use Rattle.ps_allpass_channels.proofs.DeskPuts.{channels_none, channels_more}
use Rattle.ps_allpass_channels.proofs.DeskReads.{same_chain}
use Rattle.ps_allpass_channels.proofs.DeskLaid.{band_fits, wayed}
use Rattle.ps_allpass_channels.proofs.desks.ways.Invariants.{way_in}
use Rattle.ps_allpass_channels.proofs.desks.ways.Goals as goal

pub overflow_mul-channels : goal.overflow_mul-channels
overflow_mul-channels c = omega (arith, c.groups-channels.ensures, (bounds c.args.layout).groups)

pub loop-k-init : goal.loop-k-init
loop-k-init c =
    let a = c.args in
    record {
      within = omega arith;
      few = omega (arith, c.groups-channels.ensures, (bounds a.layout).groups);
      whole = omega arith;
      room = λ k. omega (arith, band_fits a.layout a.map.now k c.requires.map_value.0, c.requires.map_value.1);
      laid = channels_none 0 11 (λ j. j < 27) (way_in a.map.now a.rows.now a.e a.next) a.desks.now;
    }

pub overflow_mul-at : goal.overflow_mul-at
overflow_mul-at c =
    let course : limits.course * get_or c.args.map.now c.loop-k.k 0 + limits.course ≤ length c.args.rows.now = c.loop-k.invariant.room c.loop-k.k in
    omega (arith, course)

pub overflow_add-at : goal.overflow_add-at
overflow_add-at c =
    let course : limits.course * get_or c.args.map.now c.loop-k.k 0 + limits.course ≤ length c.args.rows.now = c.loop-k.invariant.room c.loop-k.k in
    omega (arith, course)

pub overflow_add-at-in-loop-k : goal.overflow_add-at-in-loop-k
overflow_add-at-in-loop-k c =
    let course : limits.course * get_or c.args.map.now c.loop-k.k 0 + limits.course ≤ length c.args.rows.now = c.loop-k.invariant.room c.loop-k.k in
    omega (arith, course)

pub lay_way-requires : goal.lay_way-requires
lay_way-requires c =
    let course : limits.course * get_or c.args.map.now c.loop-k.k 0 + limits.course ≤ length c.args.rows.now = c.loop-k.invariant.room c.loop-k.k in
    omega (arith, course)

pub loop-k-preserved : goal.loop-k-preserved
loop-k-preserved c =
    let v = c.loop-k.invariant in
    record {
      within = omega (arith, c.loop-k-test.true);
      few = v.few;
      whole = c.lay_way.ensures.long ∙ v.whole;
      room = v.room;
      laid = channels_more v.laid c.lay_way.ensures (omega arith) (λ j. rw c.from-at.ensures);
    }

pub returns : goal.returns
returns c =
    let l = c.loop-k in
    let a = c.args in
    let all : l.k ≡ 4 * c.groups-channels.result = omega (arith, l.invariant.within, c.loop-k-test.false) in record {
      way = wayed a.layout a.rows.now a.e a.next (rw (all, c.groups-channels.ensures, c.requires.map_value.0) at l.invariant.laid);
      chains = λ k u. same_chain _ _ k (l.invariant.laid.before k);
    }
