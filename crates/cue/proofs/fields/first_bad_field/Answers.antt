-- `cue::fields::first_bad_field` meets its contract: the first list of checks that fails decides. Assumes nothing.
use borrow.Author.Rules.{rules}
use Rattle.cue.proofs.Finding.{found_or, or_assoc}
use Rattle.cue.proofs.Sizes.{AllNear, places_near}
use Rattle.cue.proofs.fields.first_bad_field.Goals as goal

pub first_bad_time-requires : goal.first_bad_time-requires
first_bad_time-requires c = let near : AllNear c.args.h = places_near c.args.h (search rules) in rw c.requires near.iid

pub first_bad_time-requires-2 : goal.first_bad_time-requires-2
first_bad_time-requires-2 c = let near : AllNear c.args.h = places_near c.args.h (search rules) in rw c.requires near.icc

pub first_bad_time-requires-3 : goal.first_bad_time-requires-3
first_bad_time-requires-3 c = let near : AllNear c.args.h = places_near c.args.h (search rules) in rw c.requires near.ipd

pub first_bad_time-requires-4 : goal.first_bad_time-requires-4
first_bad_time-requires-4 c = let near : AllNear c.args.h = places_near c.args.h (search rules) in rw c.requires near.opd

pub returns : goal.returns
returns c =
    rw (
      c.or-4.ensures,
      c.or-3.ensures,
      c.or-2.ensures,
      c.or.ensures,
      c.first_over.ensures,
      c.first_bad_time.ensures,
      c.first_bad_time-2.ensures,
      c.first_bad_time-3.ensures,
      c.first_bad_time-4.ensures,
      c.each.ensures.0,
      c.requires,
    )
    (simp (found_or c.args.bytes.now, or_assoc))
