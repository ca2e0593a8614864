-- Where the flat lists of a frame hold its input, ducking factors and coefficients, its plain delays give the left and right of the definitions, and leave
-- the memory that holds the definitions' channels. Assumes nothing.
use mathlib.Core.Path.{◌≡◌, refl, sym, ap, ap₂, ◌∙◌}
use mathlib.Core.Bool.{Bool, true, false, cond}
use mathlib.Core.List.{List, [], ◌∷◌, ◌++◌}
use Prim.Native.Nat.{ℕ, zero, suc, ◌+◌, ◌-◌, ◌*◌, ◌<◌, ◌≤◌, min}
use native.Mathlib.Omega.{arith}
use borrow.Author.Tests.{le-ltb, eq-eqb, le-leb}
use lib.Dec.{ltb}
use lib.Ieee.{Float}
use lib.ListN.{length}
use Rattle.complex.specs.declared.Complex.{Complex}
use Rattle.complex.specs.Operations.{scaled}
use Rattle.layout.specs.declared.Layout.{Layout}
use Rattle.layout.specs.Numbers.{bands_of, channels_of, all_pass_of, short_delay_of, split_of, unsplit_from_of}
use Rattle.layout.proofs.Bounds.{bounds}
use Rattle.limits.specs.Limits as limits
use Rattle.lists.proofs.Rows.{rows_same}
use Rattle.planar.specs.Frame.{qmf_at, qmf_rows, qmf_band_of}
use Rattle.planar.specs.Cells.{side_by_side}
use Rattle.planar.specs.Rings.{ring_cell, long_past, short_past}
use Rattle.ps_decorr.specs.Channels.{channel_in, delay_of, plain_with}
use Rattle.ps_delay_channels.specs.Channels as delayed
use Rattle.ps_map.specs.Bands.{band_of, conjugated_of}
use Rattle.ps_map.proofs.Bands.{band_small}
use Rattle.ps_stereo_slots.specs.declared.Timing.{Timing}
use Rattle.standard.specs.declared.Matrix.{Matrix}
use Rattle.standard.specs.Channel.{Channel, chain_of, back, past_at, channel_output}
use Rattle.standard.specs.Core.{Frame, Core, channel_then, decorrelated, matrix_then}
use Rattle.standard.specs.Mixing.{left_of, right_of}
use Rattle.standard.proofs.Channels.{past_of}
use Rattle.ps_decoder.proofs.Flat.{Flat, timing_of, row_is}

past_same : (past : List Complex) (x y : ℕ → Complex) (n : ℕ) → ((m : ℕ) → m < n → x m ≡ y m) → past_at past x n ≡ past_at past y n
unfolding past_at
past_same past x y zero same = refl
past_same past x y (suc n) same = ap₂ (λ (z : Complex) (h : List Complex). z ∷ h) (same n (omega arith)) (past_same past x y n (λ m u. same m (omega arith)))

-- the two kinds of delay, each read off its own memory
past_kind : (t : Bool) (c d : Channel) → cond t c.past d.past ≡ (cond {A = Channel} t c d).past
past_kind true c d = refl
past_kind false c d = refl

reach_kind : (t : Bool) (h : List Complex) → back (cond t 13 0) h ≡ cond t (back 13 h) (back 0 h)
reach_kind true h = refl
reach_kind false h = refl

-- equal complex numbers, side by side
pairs_same : (f g : ℕ → Complex) (n : ℕ) → ((i : ℕ) → i < n → f i ≡ g i) → side_by_side f n ≡ side_by_side g n
pairs_same f g n same = rows_same _ _ n (λ i u. ap (λ (z : Complex). z.re ∷ z.im ∷ []) (same i u))

module _ {f : Frame} {s : Core} {places : List ℕ} {count turn : ℕ} {samples input gains rows delays plain : List Float}
    (flat : Flat f s places count turn samples input gains rows delays plain) where
  abbrev l : Layout
  l = f.head.layout

  abbrev slots : ℕ
  slots = f.head.slots

  abbrev timing : Timing
  timing = timing_of f places count turn

  -- the memory's part of a plain delay
  memory_is : (k : ℕ) → all_pass_of l ≤ k → delayed.past_of l timing input gains rows plain k ≡ (s.channel k).past
  unfolding channel_in
  memory_is k u =
      past_kind (ltb k (short_delay_of l)) (delay_of (long_past turn plain (k - all_pass_of l))) (delay_of (short_past plain (k - short_delay_of l)))
      ∙ ap (λ (c : Channel). c.past) (rw (le-ltb k (all_pass_of l) u) at (flat.channel k))

  past_then_lem : (k n : ℕ) → all_pass_of l ≤ k → k < channels_of l → n ≤ slots → delayed.past_then l timing input gains rows plain k n ≡ (channel_then f s k n).past
  unfolding delayed.past_then channel_then
  past_then_lem k n u w h =
      past_same _ (λ m. qmf_at input m (qmf_band_of l k)) (λ m. f.sample m k) n (λ m v. row_is flat m k (omega arith) u w)
      ∙ ap (λ (g : List Complex). past_at g (λ m. f.sample m k) n) (memory_is k u)
      ∙ sym (past_of (chain_of l k) (s.channel k) (λ m. f.sample m k) n)

  decorrelated_same : (n k : ℕ) → n < slots → all_pass_of l ≤ k → k < channels_of l → delayed.decorrelated l timing input gains rows plain n k ≡ decorrelated f s n k
  unfolding delayed.decorrelated decorrelated channel_output
  decorrelated_same n k h u w =
      rw (le-ltb k (all_pass_of l) u)
      (ap₂ (λ (y : Complex) (factor : Float). scaled y factor)
      (reach_kind (ltb k (short_delay_of l)) (delayed.past_then l timing input gains rows plain k n) ∙ ap (λ (g : List Complex). cond (ltb k (short_delay_of l)) (back 13 g) (back 0 g)) (past_then_lem k n u w (omega arith)))
      (flat.gain (band_of l k) n (band_small l k) h))

  -- one of the two sides
  pub delay_side : (side : Bool → Matrix → Complex → Complex → Complex) (n k : ℕ) → n < slots → all_pass_of l ≤ k → k < channels_of l
      → delayed.side_at l timing input gains rows plain side n k
      ≡ side (conjugated_of l k) (matrix_then f s (band_of l k) n) (f.sample n k) (decorrelated f s n k)
  unfolding delayed.side_at delayed.matrix_then
  delay_side side n k h u w =
      ap₂ (λ (m : Matrix) (x : Complex). side (conjugated_of l k) m x (delayed.decorrelated l timing input gains rows plain n k))
      (flat.matrix (band_of l k) n (band_small l k)) (row_is flat n k h u w)
      ∙ ap (side (conjugated_of l k) (matrix_then f s (band_of l k) n) (f.sample n k)) (decorrelated_same n k h u w)

  -- a side with the bands of the plain delays
  abbrev pub high_at : (Bool → Matrix → Complex → Complex → Complex) → List Float → ℕ → ℕ → Complex
  high_at side old n q = cond (ltb q (qmf_band_of l (all_pass_of l))) (qmf_at old n q) (delayed.side_at l timing input gains rows plain side n (q + unsplit_from_of l - split_of l))

  -- ---- what they leave, where the input and the outputs have a frame's rows
  module _ (left right : List Float) (left_long : length left ≡ 128 * slots) (right_long : length right ≡ 128 * slots) where
    all_slots : min slots 32 ≡ slots
    all_slots = omega arith

    fits : delayed.fits l timing input gains rows plain left right ≡ true
    fits =
        rw (
          eq-eqb (length left) (128 * min slots 32) (left_long ∙ ap (λ (n : ℕ). 128 * n) (omega arith)),
          eq-eqb (length right) (128 * min slots 32) (right_long ∙ ap (λ (n : ℕ). 128 * n) (omega arith)),
          le-leb (128 * min slots 32) (length input) (omega arith),
          le-leb (32 * bands_of l) (length gains) flat.gains_long,
          le-leb (limits.course * bands_of l) (length rows) flat.rows_long,
          eq-eqb (length plain) 394 flat.plain_long,
        )

    pub delays_left : delayed.left_after l timing input gains rows plain left right ≡ qmf_rows slots (high_at left_of left)
    unfolding delayed.left_after delayed.side_rows
    delays_left = ap₂ (λ (t : Bool) (n : ℕ). cond t (delayed.side_rows l timing input gains rows plain left_of n left) left) fits all_slots

    pub delays_right : delayed.right_after l timing input gains rows plain left right ≡ qmf_rows slots (high_at right_of right)
    unfolding delayed.right_after delayed.side_rows
    delays_right = ap₂ (λ (t : Bool) (n : ℕ). cond t (delayed.side_rows l timing input gains rows plain right_of n right) right) fits all_slots

    pub plain_after_lem : delayed.plain_after l timing input gains rows plain left right ≡ plain_with l (turn + slots) (λ k. channel_then f s k slots)
    unfolding delayed.plain_after plain_with
    plain_after_lem =
        let b = bounds l in
        rw (fits, all_slots)
        (ap₂ (λ (long short : List Float). long ++ short)
        (rows_same _ _ 14
        (λ r w. pairs_same _ _ 12 (λ j u. ap (λ (g : List Complex). ring_cell 14 (turn + slots) g r) (past_then_lem (all_pass_of l + j) slots (omega arith) (omega arith) (omega arith)))))
        (pairs_same _ _ 29 (λ j u. ap (back 0) (past_then_lem (short_delay_of l + j) slots (omega arith) (omega arith) (omega arith)))))
