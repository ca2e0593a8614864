-- `ps_delay_channels::rows::bands` meets its contract: after n turns the run of bands is mixed in the first n slots. Assumes nothing.
use mathlib.Core.Path.{◌≡◌, ap, ◌∙◌}
use Rattle.std.proofs.Common.{Bor}
use Rattle.lists.specs.Part.{part}
use mathlib.Core.List.{List}
use Prim.Native.Nat.{◌+◌, ◌*◌, ◌-◌, ◌%◌, ◌<◌}
use native.Mathlib.Omega.{arith}
use lib.ListN.{length}
use lib.Ieee.{Float}
use Rattle.standard.specs.Mixing.{left_of, right_of}
use Rattle.ps_delay_channels.proofs.Bands.{banding_none, banding_all, banding_kept, banding_came, width, lent_long, row_room}
use Rattle.ps_delay_channels.proofs.rows.bands.Goals as goal
use Rattle.ps_delay_channels.proofs.rows.bands.Goals.{then-n-delay, else-n-delay}

pub loop-n-init : goal.loop-n-init
loop-n-init c = record { reached = omega arith; lefts = banding_none _ _ _ _ _; rights = banding_none _ _ _ _ _ }

pub weigh-requires : goal.weigh-requires
weigh-requires c =
    let a = c.args in
    let n = c.loop-n.n in
    let d = a.span.delay in
    let k = 2 * a.span.count in
    let at = 128 * n + 2 * a.span.from in
    let delayed_long : length c.if-n-delay.delayed.now ≡ k = elim c.if-n-delay.branch [
      | then-n-delay w ↦
          let then = 24 * ((d.position + n) % 14) + 2 * (a.span.from - d.first) in
          ap (λ (b : Bor (List Float)). length b.now) w.delayed-is ∙ lent_long then k (then + k - then) a.span.before.now (width then k) (row_room n c.requires.frame.1 w.if-n-delay.true)
      | else-n-delay w ↦
          let then = 128 * (n - d.slots) + 2 * a.span.from in
          ap (λ (b : Bor (List Float)). length b.now) w.delayed-is ∙ lent_long then k (then + k - then) a.lent.input.now (width then k) (omega arith)
    ] in
    record {
      slot = omega arith;
      samples_len = (
        lent_long at k (at + k - at) a.lent.input.now (width at k) (omega arith),
        delayed_long,
        lent_long at k (at + k - at) c.loop-n.left (width at k) (omega (arith, c.loop-n.invariant.lefts.long)),
        lent_long at k (at + k - at) c.loop-n.right (width at k) (omega (arith, c.loop-n.invariant.rights.long)),
      );
    }

pub loop-n-preserved : goal.loop-n-preserved
loop-n-preserved c =
    let a = c.args in
    let n = c.loop-n.n in
    let d = a.span.delay in
    let from = a.span.from in
    let count = a.span.count in
    let k = 2 * count in
    let at = 128 * n + 2 * from in
    let frame = c.requires.frame.0 in
    let rows = c.requires.frame.1 in
    let more : n < a.slots = c.loop-n-test.true in
    elim c.if-n-delay.branch [
      | then-n-delay w ↦
          let then = 24 * ((d.position + n) % 14) + 2 * (from - d.first) in
          let now : c.if-n-delay.delayed.now ≡ part then (then + k - then) a.span.before.now = ap (λ (b : Bor (List Float)). b.now) w.delayed-is in
          record {
            reached = omega (arith, more);
            lefts =
                banding_kept left_of a.runs.now a.lent.gains.now a.lent.input.now a.span.before.now d from count a.slots
                c.loop-n.invariant.lefts rows frame.left_long more (at + k - at) (then + k - then) (width at k) (width then k)
                c.weigh.new.left c.weigh.auto.left w.if-n-delay.true (rw now at c.weigh.ensures.left);
            rights =
                banding_kept right_of a.runs.now a.lent.gains.now a.lent.input.now a.span.before.now d from count a.slots
                c.loop-n.invariant.rights rows frame.right_long more (at + k - at) (then + k - then) (width at k) (width then k)
                c.weigh.new.right c.weigh.auto.right w.if-n-delay.true (rw now at c.weigh.ensures.right);
          }
      | else-n-delay w ↦
          let then = 128 * (n - d.slots) + 2 * from in
          let now : c.if-n-delay.delayed.now ≡ part then (then + k - then) a.lent.input.now = ap (λ (b : Bor (List Float)). b.now) w.delayed-is in
          record {
            reached = omega (arith, more);
            lefts =
                banding_came left_of a.runs.now a.lent.gains.now a.lent.input.now a.span.before.now d from count a.slots
                c.loop-n.invariant.lefts rows frame.left_long more (at + k - at) (then + k - then) (width at k) (width then k)
                c.weigh.new.left c.weigh.auto.left w.if-n-delay.false (rw now at c.weigh.ensures.left);
            rights =
                banding_came right_of a.runs.now a.lent.gains.now a.lent.input.now a.span.before.now d from count a.slots
                c.loop-n.invariant.rights rows frame.right_long more (at + k - at) (then + k - then) (width at k) (width then k)
                c.weigh.new.right c.weigh.auto.right w.if-n-delay.false (rw now at c.weigh.ensures.right);
          }
    ]

pub shape_of-left : goal.shape_of-left
shape_of-left c = c.loop-n.invariant.lefts.long

pub shape_of-right : goal.shape_of-right
shape_of-right c = c.loop-n.invariant.rights.long

pub returns : goal.returns
returns c =
    let all : c.loop-n.n ≡ c.args.slots = omega (arith, c.loop-n.invariant.reached) in
    record { left = banding_all c.loop-n.invariant.lefts all; right = banding_all c.loop-n.invariant.rights all }
