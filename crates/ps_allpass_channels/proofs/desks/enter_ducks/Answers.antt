-- `ps_allpass_channels::desks::enter_ducks` meets its contract: each turn enters the ducking factors of one desk more. Assumes nothing.
use mathlib.Core.Path.{◌≡◌, refl, ◌∙◌}
use Prim.Native.Nat.{◌+◌, ◌*◌, ◌<◌}
use native.Mathlib.Omega.{arith}
use Rattle.layout.proofs.Bounds.{bounds}
use Rattle.ps_allpass_channels.proofs.DeskPuts.{channels_none}
use Rattle.ps_allpass_channels.proofs.DeskLaid.{band_fits}
use Rattle.ps_allpass_channels.proofs.DeskRuns.{channels_on}
use Rattle.ps_allpass_channels.proofs.desks.enter_ducks.Invariants.{duck_of}
use Rattle.ps_allpass_channels.proofs.desks.enter_ducks.Goals as goal

pub loop-g-init : goal.loop-g-init
loop-g-init c =
    let a = c.args in
    record {
      within = omega arith;
      few = omega (arith, c.groups-g-end.ensures, (bounds a.layout).groups);
      whole = omega arith;
      room = λ k. omega (arith, band_fits a.layout a.map.now k c.requires.0, c.requires.2);
      laid = channels_none 0 29 (λ j. j < 30) (duck_of a.map.now a.gains.now a.n) a.desks.now;
    }

pub duck_four-requires : goal.duck_four-requires
duck_four-requires c =
    let v = c.loop-g.invariant in
    let p = c.requires in
    (v.room, p.1, omega (arith, v.few, c.loop-g-test.true))

pub loop-g-preserved : goal.loop-g-preserved
loop-g-preserved c =
    let l = c.loop-g in
    let v = l.invariant in
    let next : 4 * (l.g + 1) ≡ 4 * l.g + 4 = omega arith in
    record {
      within = omega (arith, c.loop-g-test.true);
      few = v.few;
      whole = c.duck_four.ensures.long ∙ v.whole;
      room = v.room;
      laid = rw next (channels_on v.laid c.duck_four.ensures (omega arith) (omega arith) (λ k j a b. refl));
    }

pub returns : goal.returns
returns c =
    let l = c.loop-g in
    let all : l.g ≡ c.groups-g-end.result = omega (arith, l.invariant.within, c.loop-g-test.false) in
    rw (all, c.groups-g-end.ensures, c.requires.0) at l.invariant.laid
