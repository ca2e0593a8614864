-- `ps_delay_channels::frame` meets its contract: the fractions and the memories that it lends are those of the frame, and so is what it keeps. Assumes
-- nothing.
use mathlib.Core.Path.{◌∙◌}
use Prim.Native.Nat.{◌%◌}
use native.Mathlib.Omega.{arith}
use borrow.Rule.Slice.PartMut.{same_len_mid}
use Rattle.lists.specs.Part.{part, put}
use Rattle.lists.proofs.Parts.{part_length}
use Rattle.ps_stereo_slots.proofs.Interpolating.{fractions_made}
use Rattle.ps_delay_channels.proofs.Finishing.{all_done}
use Rattle.ps_delay_channels.proofs.Numbers.{long_kind, short_kind, long_lent, short_lent}
use Rattle.ps_delay_channels.proofs.Spans.{framed_on}
use Rattle.ps_delay_channels.proofs.frame.Goals as goal

pub each-requires : goal.each-requires
each-requires c =
    let s = c.args in record {
      fractions = (rw c.fractions.ensures (fractions_made s.timing.borders s.timing.count _), c.requires.frame.0);
      layout_in_bounds = c.requires.layout_in_bounds;
      layout_bound = long_lent s.layout c.all_pass-longs.result (s.timing.turn % 14) _ c.delay_at.ensures c.all_pass-longs.ensures (omega arith)
          (part 0 336 s.plain.now) (part_length 0 336 s.plain.now (omega (arith, c.requires.frame.1)));
    }

pub slice_bounds-short-end : goal.slice_bounds-short-end
slice_bounds-short-end c =
    omega (arith, c.requires.frame.1)

pub each-requires-2 : goal.each-requires-2
each-requires-2 c =
    let s = c.args in
    let sides = c.each.ensures in record {
      fractions = (rw c.fractions.ensures (fractions_made s.timing.borders s.timing.count _), framed_on c.requires.frame.0 _ _ sides.left.long sides.right.long);
      layout_in_bounds = c.requires.layout_in_bounds;
      layout_bound = short_lent s.layout c.short_delay-shorts.result (s.timing.turn % 14) _ c.delay_at-2.ensures c.short_delay-shorts.ensures
          (part 336 58 s.plain.now) (part_length 336 58 s.plain.now (omega (arith, c.requires.frame.1)));
    }

pub slice_bounds-keep_long-end : goal.slice_bounds-keep_long-end
slice_bounds-keep_long-end c = omega (arith, c.requires.frame.1)

pub keep_long-requires : goal.keep_long-requires
keep_long-requires c =
    let f = c.requires.frame.0 in
    (part_length 0 336 c.args.plain.now (omega (arith, c.requires.frame.1)), omega arith, f.few, f.input_long)

pub slice_bounds-keep_short-end : goal.slice_bounds-keep_short-end
slice_bounds-keep_short-end c =
    omega (arith, same_len_mid 0 336 c.args.plain.now c.keep_long.new.long c.keep_long.auto.long, c.requires.frame.1)

pub keep_short-requires : goal.keep_short-requires
keep_short-requires c =
    let f = c.requires.frame.0 in
    let plain = c.args.plain.now in
    let long = c.keep_long.new.long in
    (part_length 336 58 (put 0 336 plain long) (omega (arith, same_len_mid 0 336 plain long c.keep_long.auto.long, c.requires.frame.1)), f.few, f.input_long)

pub shape_of-plain : goal.shape_of-plain
shape_of-plain c =
    let plain = c.args.plain.now in
    let long = c.keep_long.new.long in
    same_len_mid 336 58 (put 0 336 plain long) c.keep_short.new.short c.keep_short.auto.short
    ∙ same_len_mid 0 336 plain long c.keep_long.auto.long

pub returns : goal.returns
returns c =
    let s = c.args in
    let plain = s.plain.now in
    let long = c.keep_long.new.long in
    let short = c.keep_short.new.short in
    let is_long = long_kind s.layout c.all_pass-longs.result (s.timing.turn % 14) _ c.delay_at.ensures c.all_pass-longs.ensures in
    let is_short = short_kind s.layout c.short_delay-shorts.result (s.timing.turn % 14) _ c.delay_at-2.ensures c.short_delay-shorts.ensures in
    let p = all_done s.layout s.timing s.lent.input.now s.lent.gains.now s.lent.rows.now plain s.left.now s.right.now _ _ _ _ long short c.requires.frame.0 c.requires.frame.1
    (rw is_long at c.each.ensures.left, rw is_long at c.each.ensures.right)
    (rw is_short at c.each-2.ensures.left, rw is_short at c.each-2.ensures.right)
    c.keep_long.auto.long c.keep_long.ensures c.keep_short.auto.short c.keep_short.ensures in
    record { left = p.0; right = p.1.0; plain = p.1.1 }
