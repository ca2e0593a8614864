-- A state that is written and read again is the same state. Assumes nothing.
use mathlib.Core.Path.{◌≡◌, refl, sym, ap, ap₂, ◌∙◌}
use mathlib.Core.List.{List, [], ◌∷◌, ◌++◌, append-nil, append_assoc}
use mathlib.Core.Bool.{false}
use Prim.Native.Nat.{ℕ, suc, ◌+◌, ◌%◌, ◌≤◌, ◌<◌}
use native.Mathlib.Omega.{arith}
use lib.IntN.{pos}
use lib.ListN.{length, take, drop, replicate, length-append}
use lib.Seq.{take_at, drop_at, drop-drop}
use lib.Ieee.{Float}
use Rattle.borders.specs.Borders.{slots_of}
use Rattle.exact_numbers.specs.Numbers.{kept_number, kept_flag}
use Rattle.exact_numbers.proofs.Back.{number_back, flag_back}
use Rattle.layout.specs.declared.Layout.{Layout}
use Rattle.layout.specs.declared.Layout.TheVariants.{Bands20, Bands34}
use Rattle.lists.specs.Part.{part}
use Rattle.ps_data.specs.Indices.{fresh_lines}
use Rattle.ps_data.specs.declared.PsLines.{PsLines}
use Rattle.ps_rows.specs.declared.Row.{Row}
use Rattle.ps_state.specs.declared.PsDecoder.{PsDecoder}
use Rattle.ps_state.specs.Shape.{Shaped}
use Rattle.ps_state.specs.State.{sound_long, sound_of, fresh_decoder}
use Rattle.ps_state.proofs.Lent.{heard, sound_length, decoder_apart, sound_fresh}
use Rattle.ps_memory.specs.Packed.{packed}
use Rattle.ps_memory.specs.Place.{row_long, lines_long, phases_long, lines_at, phases_at, sound_at, numbers, layout_in, wide, slots_in, turn_in, head_image, row_place, row_of, row_image, lines_of, lines_image, small_image, image, carried_in, loaded}
use Rattle.ps_memory.specs.Shape.{RowKept, IndicesKept, StateKept}
use Rattle.ps_memory.proofs.Narrow.{packed_length, packed_back}

-- ---- the next part of a memory

record Next {A : Type 0} (m q r : List A) (a n : ℕ) : Type 0 where
  here : q ≡ part a n m
  then : drop (a + n) m ≡ r

next : {A : Type 0} (m q r : List A) (a n : ℕ) → drop a m ≡ q ++ r → length q ≡ n → Next m q r a n
next m q r a n e l =
    record {
      here = sym (ap (take n) e ∙ take_at q r n l);
      then = sym (drop-drop n a m) ∙ ap (drop n) e ∙ drop_at q r n l;
    }

last : {A : Type 0} (m q : List A) (a n : ℕ) → drop a m ≡ q → length q ≡ n → q ≡ part a n m
last m q a n e l = (next m q [] a n (e ∙ sym (append-nil q)) l).here

-- ---- single numbers

layout_back : (l : Layout) → layout_in (kept_flag (wide l)) ≡ l
layout_back Bands20 = rw (flag_back (wide Bands20))
layout_back Bands34 = rw (flag_back (wide Bands34))

slots_back : (asked : ℕ) → 6 ≤ asked → asked ≤ 32 → slots_in (kept_number (slots_of asked)) ≡ asked
slots_back asked h k = ap slots_of (number_back 32 (slots_of asked) (omega arith) (omega arith)) ∙ omega arith

turn_back : (turn : ℕ) → turn < 420 → turn_in (kept_number (turn % 420)) ≡ turn
turn_back turn h = number_back 419 (turn % 420) (omega arith) (omega arith) ∙ omega arith

-- ---- what the lines have left

row_long_lem : (r : Row) → length (row_image r) ≡ row_long
unfolding row_image
row_long_lem r = ap suc (packed_length 17 r.at)

row_back : (r : Row) → RowKept r → row_of (row_image r) ≡ r
unfolding row_of row_image
row_back r kept =
    rw (
      ← last (row_image r) (packed 17 r.at) 1 17 refl (packed_length 17 r.at),
      packed_back 17 r.at kept.long kept.narrow,
      number_back 34 r.used kept.count (omega arith),
    )

lines_long_lem : (s : PsLines) → length (lines_image s) ≡ lines_long
unfolding lines_image
lines_long_lem s =
    let a = row_image s.rows.iid in
    let b = row_image s.rows.icc in
    let c = row_image s.rows.ipd in
    let d = row_image s.rows.opd in
    omega (
      arith,
      length-append a (b ++ (c ++ d)),
      length-append b (c ++ d),
      length-append c d,
      row_long_lem s.rows.iid,
      row_long_lem s.rows.icc,
      row_long_lem s.rows.ipd,
      row_long_lem s.rows.opd,
    )

lines_back : (s : PsLines) → IndicesKept s.rows → lines_of (lines_image s) ≡ s
unfolding lines_of lines_image
lines_back s kept =
    let m = lines_image s in
    let a = row_image s.rows.iid in
    let b = row_image s.rows.icc in
    let c = row_image s.rows.ipd in
    let d = row_image s.rows.opd in
    let iid = next m a (b ++ (c ++ d)) (row_place 0) row_long refl (row_long_lem s.rows.iid) in
    let icc = next m b (c ++ d) (row_place 1) row_long iid.then (row_long_lem s.rows.icc) in
    let ipd = next m c d (row_place 2) row_long icc.then (row_long_lem s.rows.ipd) in
    rw (
      ← iid.here,
      ← icc.here,
      ← ipd.here,
      ← last m d (row_place 3) row_long ipd.then (row_long_lem s.rows.opd),
      flag_back s.configured,
      row_back s.rows.iid kept.iid,
      row_back s.rows.icc kept.icc,
      row_back s.rows.ipd kept.ipd,
      row_back s.rows.opd kept.opd,
    )

-- ---- a whole state

module _ (s : PsDecoder) where
  -- what stands behind the single numbers
  abbrev lines : List Float
  lines = lines_image s.lines

  abbrev phases : List Float
  phases = packed phases_long s.stereo.phases

  pub image_length : Shaped s → length (image s) ≡ numbers
  unfolding image small_image head_image
  image_length shape =
      omega (
        arith,
        length-append (lines ++ phases) (sound_of s),
        length-append lines phases,
        lines_long_lem s.lines,
        packed_length phases_long s.stereo.phases,
        sound_length s (heard shape),
      )

  pub load_image : StateKept s → loaded (image s) ≡ s
  unfolding loaded carried_in image small_image head_image
  load_image kept =
      let m = image s in
      let shape = heard kept.shape in
      let its-lines = next m lines (phases ++ sound_of s) lines_at lines_long (append_assoc lines phases (sound_of s)) (lines_long_lem s.lines) in
      let its-phases = next m phases (sound_of s) phases_at phases_long its-lines.then (packed_length phases_long s.stereo.phases) in
      rw (
        ← last m (sound_of s) sound_at sound_long its-phases.then (sound_length s shape),
        ← its-lines.here,
        ← its-phases.here,
        lines_back s.lines kept.rows,
        packed_back phases_long s.stereo.phases kept.shape.phases kept.phases,
        turn_back s.decorr.turn kept.turned,
        layout_back s.layout,
        flag_back s.cued,
        slots_back s.asked kept.fewest kept.most,
      )
      (decoder_apart s shape)

-- the slots are kept as they act
pub image_fresh : (asked : ℕ) → image (fresh_decoder asked) ≡ image (fresh_decoder (slots_of asked))
unfolding image small_image head_image
image_fresh asked =
    let same : slots_of asked ≡ slots_of (slots_of asked) = omega arith in
    ap₂ (λ (n : ℕ) (t : List Float). kept_flag (wide Bands20) ∷ kept_flag false ∷ kept_number n ∷ kept_number (0 % 420) ∷ (lines_image fresh_lines ++ packed phases_long (replicate 136 (pos 0))) ++ t)
    same (sound_fresh asked ∙ sym (sound_fresh (slots_of asked)))
