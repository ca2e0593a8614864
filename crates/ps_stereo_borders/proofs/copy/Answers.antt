-- `ps_stereo_borders::copy` meets its contract: a turn writes the front of one run. Assumes nothing.
use mathlib.Core.Path.{◌≡◌, refl, sym, ap, ◌∙◌}
use mathlib.Core.List.{List}
use Prim.Native.Nat.{ℕ, ◌+◌, ◌*◌, ◌-◌, ◌<◌, ◌≤◌}
use native.Mathlib.Nat.{add-zero, add-sub_cancel_left}
use native.Mathlib.Omega.{arith}
use borrow.Author.Rules.{rules}
use lib.Ieee.{Float}
use lib.ListN.{length}
use Rattle.lists.specs.Part.{part, put}
use Rattle.lists.proofs.Front.{front_long}
use Rattle.lists.proofs.Parts.{part_length}
use Rattle.lists.proofs.Rows.{Rowed, rowed_none}
use Rattle.ps_stereo_envelope.proofs.Courses.{rowed_part}
use Rattle.ps_stereo_borders.proofs.Runs.{run_inside}
use Rattle.ps_stereo_borders.proofs.copy.Invariants.{Inv}
use Rattle.ps_stereo_borders.proofs.copy.Goals as goal

module _ {bands : ℕ} {from : List Float} {run at : ℕ} {to₀ : List Float} {wide : ℕ} {to : List Float} {b : ℕ} (v : Inv bands from run at to₀ wide to b) (more : b < bands) where
  -- both runs are there
  source : run * b + at + 8 ≤ length from
  source = omega (arith, v.room.there, v.room.inside, run_inside run b bands more)

  target : wide * b + wide ≤ length to
  target = omega (arith, v.room.here, v.long, run_inside wide b bands more)

  -- eight numbers of each are lent
  from_lent : part (run * b + at) (run * b + at + 8 - (run * b + at)) from ≡ part (run * b + at) 8 from
  from_lent = rw (add-sub_cancel_left (run * b + at) 8)

  from_eight : length (part (run * b + at) (run * b + at + 8 - (run * b + at)) from) ≡ 8
  from_eight = ap length from_lent ∙ part_length (run * b + at) 8 from source

  to_eight : length (part (wide * b) (wide * b + 8 - wide * b) to) ≡ 8
  to_eight = rw (add-sub_cancel_left (wide * b) 8) (part_length (wide * b) 8 to (omega (arith, target, v.room.broad)))

  next : (eight : List Float) → eight ≡ part (run * b + at) (run * b + at + 8 - (run * b + at)) from → Inv bands from run at to₀ wide (put (wide * b) (wide * b + 8 - wide * b) to eight) (b + 1)
  next eight e =
      record {
        room = v.room;
        within = omega arith;
        written = written;
        long = front_long written.front (omega (arith, v.room.here, run_inside wide b bands more));
      }
    where
      written : Rowed (λ b. put 0 8 (part (wide * b) wide to₀) (part (run * b + at) 8 from)) (b + 1) (wide * (b + 1)) to₀ (put (wide * b) (wide * b + 8 - wide * b) to eight)
      written =
          rw (add-zero (wide * b)) at
          (rowed_part v.written wide 0 8 (omega (arith, v.room.broad)) (omega (arith, target, v.long)) {next = wide * (b + 1)} eight
          (ap (put 0 8 (part (wide * b) wide to₀)) (e ∙ from_lent)) (ap length e ∙ from_eight) (omega arith))

less : (n b : ℕ) → b < n → n - (b + 1) < n - b
less n b h = omega arith

pub loop-b-init : goal.loop-b-init
loop-b-init c =
    let none : c.args.wide * 0 ≡ 0 = omega arith in
    record { room = c.requires; within = omega arith; written = rw none (rowed_none _ _); long = refl }

pub overflow_mul-source : goal.overflow_mul-source
overflow_mul-source c = let s = source c.loop-b.invariant c.loop-b-test.true in search rules

pub overflow_add-source : goal.overflow_add-source
overflow_add-source c = let s = source c.loop-b.invariant c.loop-b-test.true in search rules

pub overflow_mul-target : goal.overflow_mul-target
overflow_mul-target c = let s = target c.loop-b.invariant c.loop-b-test.true in search rules

pub overflow_add-source-in-loop-b : goal.overflow_add-source-in-loop-b
overflow_add-source-in-loop-b c = let s = source c.loop-b.invariant c.loop-b-test.true in search rules

pub offset_bounds-from-source : goal.offset_bounds-from-source
offset_bounds-from-source c =
    let a = c.args in
    let below : a.run * c.loop-b.b + a.at < length a.from.now = omega (arith, source c.loop-b.invariant c.loop-b-test.true) in
    search rules

pub slice_bounds-copy_from_slice-end : goal.slice_bounds-copy_from_slice-end
slice_bounds-copy_from_slice-end c = omega (arith, target c.loop-b.invariant c.loop-b-test.true, c.loop-b.invariant.room.broad)

pub slice_bounds-copy_from_slice-end-in-loop-b : goal.slice_bounds-copy_from_slice-end-in-loop-b
slice_bounds-copy_from_slice-end-in-loop-b c = source c.loop-b.invariant c.loop-b-test.true

pub overflow_add-target : goal.overflow_add-target
overflow_add-target c =
    let s = target c.loop-b.invariant c.loop-b-test.true in
    let w = c.loop-b.invariant.room.broad in
    omega arith

pub offset_bounds-to-target : goal.offset_bounds-to-target
offset_bounds-to-target c =
    let a = c.args in
    let v = c.loop-b.invariant in
    let below : a.wide * c.loop-b.b < length a.to.now = omega (arith, target v c.loop-b-test.true, v.long, v.room.broad) in
    search rules

pub copy_from_slice-requires : goal.copy_from_slice-requires
copy_from_slice-requires c =
    to_eight c.loop-b.invariant c.loop-b-test.true ∙ sym (from_eight c.loop-b.invariant c.loop-b-test.true)

pub loop-b-smaller : goal.loop-b-smaller
loop-b-smaller c = less _ _ c.loop-b-test.true

pub loop-b-preserved : goal.loop-b-preserved
loop-b-preserved c =
    next c.loop-b.invariant c.loop-b-test.true _ c.copy_from_slice.ensures.after

pub shape_of-to : goal.shape_of-to
shape_of-to c = c.loop-b.invariant.long

pub returns : goal.returns
returns c =
    let v = c.loop-b.invariant in
    let all : c.loop-b.b ≡ c.args.bands = omega (arith, v.within, c.loop-b-test.false) in
    v.written.front.is ∙ rw all
