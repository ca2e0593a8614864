-- `ps_allpass_channels::rows::leave_side` meets its contract: the unsplit bands come behind the split ones. Assumes nothing.
use mathlib.Core.Path.{◌≡◌, refl}
use Prim.Native.Nat.{◌+◌, ◌-◌, ◌%◌}
use native.Mathlib.Omega.{arith}
use Rattle.layout.specs.declared.Layout.{Layout}
use Rattle.layout.specs.declared.Layout.TheVariants.{Bands20, Bands34}
use Rattle.layout.specs.Numbers.{split_of, unsplit_from_of}
use Rattle.layout.proofs.Bounds.{bounds}
use Rattle.standard.specs.Hybrid.{synthesised}
use Rattle.ps_allpass_channels.specs.Desks.{standing}
use Rattle.ps_allpass_channels.proofs.Leaving.{rowed_then, band_unsplit}
use Rattle.ps_allpass_channels.proofs.rows.leave_side.Goals as goal

-- in both layouts QMF band 5 is the first channel of a desk
whole_desks : (l : Layout) → (5 + unsplit_from_of l - split_of l) % 4 ≡ 0
whole_desks Bands20 = refl
whole_desks Bands34 = refl

pub pass_unsplit-requires : goal.pass_unsplit-requires
pass_unsplit-requires c =
    let b = bounds c.args.layout in
    let split = c.split.ensures in
    let unsplit = c.unsplit_from.ensures in record {
      split_bound = (omega (arith, split, b.split), (omega (arith, split, unsplit, b.more), (omega (arith, split, unsplit, b.delayed, b.all_pass), rw (split, unsplit) (whole_desks c.args.layout))));
      place_bound = c.requires.0;
    }

pub returns-in-Some : goal.returns-in-Some
returns-in-Some c =
    let l = c.args.layout in
    let y = standing c.args.desks.now c.args.place in
    let split : c.split.result ≡ split_of l = c.split.ensures in
    let unsplit : c.unsplit_from.result ≡ unsplit_from_of l = c.unsplit_from.ensures in
    let whole = c.in-Some.ensures.cases in
    rw (← whole.same)
    (rowed_then (synthesised l y) (λ q. y (q + unsplit_from_of l - split_of l)) 0 (split_of l) 23 _ c.add_split.new.row
    c.pass_unsplit.new.row c.add_split.ensures (rw (split, unsplit) at c.pass_unsplit.ensures) (omega arith)
    (omega (arith, (bounds l).split)) (λ q u v. band_unsplit l y q u))

pub returns-in_default : goal.returns-in_default
returns-in_default c = absurd (c.in_default.ensures.cases c.requires.1)
