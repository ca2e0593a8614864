-- `ps_allpass_channels::run` meets its contract: after n turns the frame's first n slots are done, and the desks have its last region's coefficients.
-- Assumes nothing.
use mathlib.Core.Path.{◌≡◌, refl, subst, ◌∙◌}
use Prim.Native.Nat.{ℕ, ◌+◌, ◌<◌, min}
use Rattle.ps_allpass_channels.specs.Desks.{Wayed}
use borrow.Author.Rules.{rules}
use native.Mathlib.Omega.{arith}
use lib.ListN.{length}
use Rattle.limits.specs.Limits as limits
use Rattle.ps_stereo_slots.proofs.Located.{region_within}
use Rattle.ps_allpass_channels.proofs.Coefficients.{matrix_is}
use Rattle.ps_allpass_channels.proofs.Reaching.{none, more, all}
use Rattle.ps_allpass_channels.proofs.run.Goals as goal

pub loop-n-init : goal.loop-n-init
loop-n-init c =
    let a = c.args in
    record {
      within = omega arith;
      ends = refl;
      counted = c.min-count.ensures;
      desks_long = refl;
      delays_long = refl;
      left_long = refl;
      right_long = refl;
      begun = λ e h. absurd (cc);
      chains = λ k u. refl;
      sofar = λ table laid. none a.lent.layout a.timing table a.lent.samples.now a.lent.gains.now a.lent.rows.now a.lent.input.now a.delays.now a.left.now a.right.now;
    }

pub begin-requires : goal.begin-requires
begin-requires c =
    let l = c.loop-n in
    let a = c.args in
    record {
      map_value = (c.requires.map_value, c.requires.room.rows_long);
      region_le_count = (
        omega (arith, c.region_in-next.ensures, l.invariant.counted, region_within a.timing.borders (min a.timing.count limits.envelopes) (min l.n 31)),
        omega (arith, l.invariant.counted),
        l.invariant.begun,
      );
    }

pub overflow_add-moment : goal.overflow_add-moment
overflow_add-moment c =
    let r = c.requires.room in
    omega (arith, r.turn, r.few, c.loop-n.invariant.ends, c.loop-n-test.true)

pub slot-requires : goal.slot-requires
slot-requires c =
    let v = c.loop-n.invariant in
    let r = c.requires.room in
    let room = c.loop-n-test.true in
    record {
      map_value = (c.requires.map_value, omega (arith, room, r.few, v.ends), omega (arith, room, r.input_long, v.ends));
      layout_in_bounds = (r.samples_long, r.gains_long);
      delays_len = omega (arith, v.delays_long, r.delays_long);
      n_in_bounds = (omega (arith, room, v.left_long, r.left_long, v.ends), omega (arith, room, v.right_long, r.right_long, v.ends));
    }

pub loop-n-preserved : goal.loop-n-preserved
loop-n-preserved c =
    let l = c.loop-n in
    let a = c.args in
    let room = c.loop-n-test.true in
    let few : l.n < 32 = omega (arith, room, c.requires.room.few, l.invariant.ends) in
    let long : length a.timing.borders ≡ limits.envelopes = search rules in
    let count = c.min-count.result in
    let region = c.region_in-next.result in
    let way = c.begin.ensures.way in
    let s = c.slot.ensures in
    record {
      within = omega (arith, room);
      ends = l.invariant.ends;
      counted = l.invariant.counted;
      desks_long = omega (arith, l.invariant.desks_long);
      delays_long = s.long ∙ l.invariant.delays_long;
      left_long = omega (arith, l.invariant.left_long);
      right_long = omega (arith, l.invariant.right_long);
      begun = λ e h. let same : region ≡ e = cc in
          subst (λ (r : ℕ). Wayed a.lent.layout a.lent.rows.now r (min (r + 1) count) c.slot.new.desks) same (record { from = λ k u. s.from k u ∙ way.from k u; step = λ k u. s.step k u ∙ way.step k u });
      chains = λ k u. s.chain k u ∙ c.begin.ensures.chains k u ∙ l.invariant.chains k u;
      sofar = λ table laid.
          more a.lent.layout a.timing table a.lent.samples.now a.lent.gains.now a.lent.rows.now a.lent.input.now a.delays.now l.n _ _ _
          (λ k u. c.begin.ensures.chains k u ∙ l.invariant.chains k u ∙ laid k u)
          (λ k u. matrix_is a.lent.layout a.timing table a.lent.samples.now a.lent.gains.now a.lent.rows.now a.lent.input.now a.delays.now l.n count region _ few long l.invariant.counted c.region_in-next.ensures c.share_in.ensures _ k u way)
          a.left.now a.right.now _ _ _ _ _ _ _ (l.invariant.sofar table laid) s;
    }

pub shape_of-delays : goal.shape_of-delays
shape_of-delays c = c.loop-n.invariant.delays_long

pub shape_of-left : goal.shape_of-left
shape_of-left c = c.loop-n.invariant.left_long

pub shape_of-right : goal.shape_of-right
shape_of-right c = c.loop-n.invariant.right_long

pub returns : goal.returns
returns c =
    let l = c.loop-n in
    let a = c.args in
    let whole : l.n ≡ a.timing.slots = omega (arith, l.invariant.within, l.invariant.ends, c.loop-n-test.false) in
    λ table laid.
    all a.lent.layout a.timing table a.lent.samples.now a.lent.gains.now a.lent.rows.now a.lent.input.now a.delays.now l.n a.left.now a.right.now _ _ _ whole
    (l.invariant.sofar table laid)
