-- `ps_stereo_envelope::each` meets its contract: a turn stores the eight numbers of one band in its course, and moves its phase indices. Assumes nothing.
use mathlib.Core.Path.{◌≡◌, refl, ap, ◌∙◌}
use mathlib.Core.List.{List}
use Prim.Native.Nat.{ℕ, ◌+◌, ◌*◌, ◌<◌, ◌-◌}
use native.Mathlib.Nat.{add-sub_cancel_left}
use native.Mathlib.Omega.{arith}
use borrow.Author.Rules.{rules}
use lib.Ieee.{Float}
use lib.IntN.{ℤ, pos}
use lib.ListN.{length, get_or}
use mir.Syntax.{w8}
use Rattle.integers.proofs.Bits.{back}
use Rattle.layout.specs.Numbers.{bands_of}
use Rattle.layout.proofs.Bounds.{bounds}
use Rattle.limits.specs.Limits as limits
use Rattle.lists.specs.Part.{part, put}
use Rattle.lists.proofs.Front.{front_long, front_lent}
use Rattle.lists.proofs.Parts.{part_length}
use Rattle.lists.proofs.Rows.{Rowed, rowed_none, rowed_more}
use Rattle.planar.specs.Frame.{numbers_of}
use Rattle.standard.specs.Mixing.{Cues}
use Rattle.standard.specs.declared.Modes.{Modes}
use Rattle.ps_stereo_envelope.specs.Envelope.{cue_of, phases_of, matrix_at, phases_then, rows_then, kept_then}
use Rattle.ps_stereo_envelope.proofs.Courses.{rowed_part}
use Rattle.ps_stereo_envelope.proofs.each.Invariants.{course_at, Inv}
use Rattle.ps_stereo_envelope.proofs.each.Goals as goal

module _ {coefficients directions : List ℤ} {modes : Modes} {cues : Cues} {e bands : ℕ} {phases₀ : List ℤ} {rows₀ : List Float} {phases : List ℤ} {rows : List Float} {b : ℕ}
    (v : Inv coefficients directions modes cues e bands phases₀ rows₀ phases rows b) (more : b < bands) where
  abbrev at : ℕ
  at = limits.course * b + 8 * (e + 1)

  -- four phase indices are lent, as they were, and eight places of the course
  four : length (part (4 * b) (4 * b + 4 - 4 * b) phases) ≡ 4
  four = rw (add-sub_cancel_left (4 * b) 4) (part_length (4 * b) 4 phases (omega arith))

  same : part (4 * b) (4 * b + 4 - 4 * b) phases ≡ phases_of phases₀ b
  same = front_lent v.moved.front 4

  eight : length (part at (at + 8 - at) rows) ≡ 8
  eight = rw (add-sub_cancel_left at 8) (part_length at 8 rows (omega arith))

  next : (four : List ℤ) (eight : List Float) → four ≡ phases_then modes.phase (cue_of cues b) (phases_of phases₀ b)
      → eight ≡ numbers_of (matrix_at coefficients directions modes (cue_of cues b) (phases_of phases₀ b))
      → Inv coefficients directions modes cues e bands phases₀ rows₀ (put (4 * b) (4 * b + 4 - 4 * b) phases four) (put at (at + 8 - at) rows eight) (b + 1)
  next four eight ef ee =
      record {
        within = omega arith;
        few = v.few;
        early = v.early;
        phases_room = v.phases_room;
        rows_room = v.rows_room;
        moved = moved;
        written = written;
        phases_long = front_long moved.front (omega arith);
        rows_long = front_long written.front (omega arith);
      }
    where
      moved : Rowed (λ b. phases_then modes.phase (cue_of cues b) (phases_of phases₀ b)) (b + 1) (4 * (b + 1)) phases₀ (put (4 * b) (4 * b + 4 - 4 * b) phases four)
      moved = rowed_more v.moved 4 four ef (ap length ef) (omega arith)

      written : Rowed (course_at coefficients directions modes cues phases₀ e rows₀) (b + 1) (limits.course * (b + 1)) rows₀ (put at (at + 8 - at) rows eight)
      written =
          rowed_part v.written limits.course (8 * (e + 1)) 8 (omega arith) (omega arith) eight
          (ap (put (8 * (e + 1)) 8 (part (limits.course * b) limits.course rows₀)) ee) (ap length ee) (omega arith)

less : (n b : ℕ) → b < n → n - (b + 1) < n - b
less n b h = omega arith

pub loop-b-init : goal.loop-b-init
loop-b-init c =
    let bands : c.bands-bands.result ≡ bands_of c.args.border.layout = c.bands-bands.ensures in
    record {
      within = omega arith;
      few = omega (arith, (bounds c.args.border.layout).bands);
      early = c.requires.0;
      phases_room = omega (arith, c.requires.1);
      rows_room = omega (arith, c.requires.2);
      moved = rowed_none _ _;
      written = rowed_none _ _;
      phases_long = refl;
      rows_long = refl;
    }

pub matrix-h-requires : goal.matrix-h-requires
matrix-h-requires c = four c.loop-b.invariant c.loop-b-test.true

pub store-requires : goal.store-requires
store-requires c = eight c.loop-b.invariant c.loop-b-test.true

pub shift-requires : goal.shift-requires
shift-requires c =
    four c.loop-b.invariant c.loop-b-test.true

pub overflow_step-b : goal.overflow_step-b
overflow_step-b c =
    let v = c.loop-b.invariant in
    omega (arith, v.few, c.loop-b-test.true)

pub loop-b-smaller : goal.loop-b-smaller
loop-b-smaller c =
    less _ _ c.loop-b-test.true

pub loop-b-preserved : goal.loop-b-preserved
loop-b-preserved c =
    let v = c.loop-b.invariant in
    let b = c.loop-b.b in
    let cues = c.args.border.cues in
    let iid = back w8 (get_or cues.iid b (pos 0)) (search rules) in
    let icc = back w8 (get_or cues.icc b (pos 0)) (search rules) in
    let ipd = back w8 (get_or cues.ipd b (pos 0)) (search rules) in
    let opd = back w8 (get_or cues.opd b (pos 0)) (search rules) in
    next v c.loop-b-test.true _ _
    (c.shift.ensures ∙ rw (ipd, opd, same v c.loop-b-test.true))
    (c.store.ensures
    ∙ ap numbers_of (c.matrix-h.ensures ∙ rw (iid, icc, ipd, opd, same v c.loop-b-test.true)))

pub shape_of-phases : goal.shape_of-phases
shape_of-phases c = c.loop-b.invariant.phases_long

pub shape_of-rows : goal.shape_of-rows
shape_of-rows c = c.loop-b.invariant.rows_long

pub returns : goal.returns
unfolding rows_then kept_then
returns c =
    let v = c.loop-b.invariant in
    let all : c.loop-b.b ≡ bands_of c.args.border.layout = omega (arith, v.within, c.loop-b-test.false, c.bands-bands.ensures) in
    record { phases = v.moved.front.is ∙ rw all; rows = v.written.front.is ∙ rw all }
