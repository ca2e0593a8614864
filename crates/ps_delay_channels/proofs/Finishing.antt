-- A frame's delayed samples and its memory are those of the histories, so that its sides and its memory are what is promised. Assumes nothing.
use mathlib.Core.Path.{◌≡◌, sym, ap, ap₂, ◌∙◌}
use mathlib.Core.Bool.{Bool, cond}
use mathlib.Core.List.{List, ◌++◌}
use Prim.Native.Nat.{ℕ, suc, ◌+◌, ◌-◌, ◌*◌, ◌%◌, ◌<◌, ◌≤◌}
use native.Mathlib.Nat.{add-zero}
use native.Mathlib.Omega.{arith}
use borrow.Author.Tests.{lt-ltb, le-ltb}
use borrow.Rule.Slice.PartMut.{same_len_mid}
use lib.Dec.{ltb}
use lib.Ieee.{Float}
use lib.ListN.{length, drop}
use lib.Seq.{take_at}
use Rattle.complex.specs.declared.Complex.{Complex}
use Rattle.layout.specs.declared.Layout.{Layout}
use Rattle.layout.specs.Numbers.{all_pass_of, channels_of, short_delay_of, split_of, unsplit_from_of}
use Rattle.layout.proofs.Bounds.{bounds}
use Rattle.lists.specs.Part.{part, put}
use Rattle.lists.specs.Ring.{age}
use Rattle.lists.specs.Rows as lists
use Rattle.lists.proofs.Maps.{tabulate_at}
use Rattle.lists.proofs.Parts.{tail_back, part_length, part_put_behind}
use Rattle.lists.proofs.Ring.{age_back, age_small}
use Rattle.planar.specs.Cells.{cell, side_by_side}
use Rattle.planar.specs.Frame.{qmf_band_of}
use Rattle.planar.specs.Rings.{ring_cell, long_past, short_past, plain_of}
use Rattle.planar.proofs.Rings.{ringed_back}
use Rattle.ps_stereo_slots.specs.declared.Timing.{Timing}
use Rattle.standard.specs.declared.Matrix.{Matrix}
use Rattle.standard.specs.Channel.{back}
use Rattle.standard.specs.Mixing.{left_of, right_of}
use Rattle.standard.specs.Numbers.{nought}
use Rattle.ps_delay_channels.specs.declared.rows.Delay.{Delay}
use Rattle.ps_delay_channels.specs.Channels.{past_then, decorrelated, matrix_then, side_at, side_rows}
use Rattle.ps_delay_channels.specs.Spans.{long_delay, short_delay, Frame, Banded, earlier, mixed_at, side_from}
use Rattle.ps_delay_channels.proofs.Bands.{lent_pair}
use Rattle.ps_delay_channels.proofs.Keeping.{KeptLong, KeptShort, side_by_side_lem, ring_rows}
use Rattle.ps_delay_channels.proofs.Numbers.{none_conjugated}
use Rattle.ps_delay_channels.proofs.Past.{earlier_back}
use Rattle.ps_delay_channels.proofs.Sofar.{banded_alike, banded_more, banded_all}

-- ---- positions in the ring

-- slot m of a frame reads what came 14 slots before it
oldest : (t m : ℕ) → m < 14 → age 14 t (14 - suc m) ≡ (t % 14 + m) % 14
oldest t m h = omega arith

onward : (t s i : ℕ) → (t % 14 + (s + i)) % 14 ≡ (t + s + i) % 14
onward t s i = omega arith

-- the channel of a QMF band that is not split
abbrev channel_of : Layout → ℕ → ℕ
channel_of l q = q + unsplit_from_of l - split_of l

module _ (l : Layout) (timing : Timing) (input gains rows plain : List Float) where
  abbrev turn : ℕ
  turn = timing.turn

  abbrev pasts : ℕ → ℕ → List Complex
  pasts = past_then l timing input gains rows plain

  abbrev ring : Delay
  ring = long_delay (turn % 14)

  -- the parts of the list that are lent
  abbrev long : List Float
  long = part 0 336 plain

  abbrev short : List Float
  short = part 336 58 plain

  -- ---- delayed samples

  -- what came i slots after the delay's begin, of a channel with the long delay
  long_back : (k n i : ℕ) → all_pass_of l ≤ k → k < short_delay_of l → i < 14 → earlier ring long input (n + i) (qmf_band_of l k) ≡ back (14 - suc i) (pasts k n)
  unfolding past_then
  long_back k n i above below u =
      rw (lt-ltb k (short_delay_of l) below) (earlier_back ring long input (long_past turn plain (k - all_pass_of l)) (qmf_band_of l k) held n i u)
    where
      held : (m : ℕ) → m < 14 → cell 1 long (24 * ((turn % 14 + m) % 14) + 2 * (qmf_band_of l k - 23)) ≡ back (14 - suc m) (long_past turn plain (k - all_pass_of l))
      held m h =
          let p = bounds l in
          let place : 0 + (24 * ((turn % 14 + m) % 14) + 2 * (qmf_band_of l k - 23)) ≡ 24 * ((turn % 14 + m) % 14) + 2 * (k - all_pass_of l) = omega arith in
          lent_pair 0 336 plain (24 * ((turn % 14 + m) % 14) + 2 * (qmf_band_of l k - 23)) (omega arith)
          ∙ ap (cell 1 plain) place
          ∙ sym (ringed_back 14 turn (λ r. cell 1 plain (24 * r + 2 * (k - all_pass_of l))) (14 - suc m) (omega arith) ∙ rw (oldest turn m h))

  -- and with the short one
  short_back : (k n i : ℕ) → short_delay_of l ≤ k → k < channels_of l → i < 1 → earlier short_delay short input (n + i) (qmf_band_of l k) ≡ back (1 - suc i) (pasts k n)
  unfolding past_then
  short_back k n i low high u =
      rw (le-ltb k (short_delay_of l) low) (earlier_back short_delay short input (short_past plain (k - short_delay_of l)) (qmf_band_of l k) held n i u)
    where
      held : (m : ℕ) → m < 1 → cell 1 short (24 * ((0 + m) % 14) + 2 * (qmf_band_of l k - 35)) ≡ back (1 - suc m) (short_past plain (k - short_delay_of l))
      held m h =
          let p = bounds l in
          let place : 336 + (24 * ((0 + m) % 14) + 2 * (qmf_band_of l k - 35)) ≡ 336 + 2 * (k - short_delay_of l) = omega arith in
          lent_pair 336 58 plain (24 * ((0 + m) % 14) + 2 * (qmf_band_of l k - 35)) (omega arith)
          ∙ ap (cell 1 plain) place
          ∙ sym (tabulate_at (λ i. cell 1 plain (336 + 2 * (k - short_delay_of l))) 1 (1 - suc m) nought (omega arith))

  -- ---- sides

  module _ (q : ℕ) (above : 23 ≤ q) where
    there : all_pass_of l ≤ channel_of l q
    there = let p = bounds l in omega arith

    same_band : qmf_band_of l (channel_of l q) ≡ q
    same_band = let p = bounds l in omega arith

    side_standard : (d : Delay) (memory : List Float) (side : Bool → Matrix → Complex → Complex → Complex) (n : ℕ)
        → earlier d memory input n q ≡ back (cond (ltb (channel_of l q) (short_delay_of l)) 13 0) (pasts (channel_of l q) n)
        → side_from d memory input timing gains rows side l n q ≡ side_at l timing input gains rows plain side n (channel_of l q)
    unfolding side_from mixed_at side_at matrix_then decorrelated
    side_standard d memory side n is = rw (none_conjugated l (channel_of l q) there, same_band, is)

    long_standard : q < 35 → (side : Bool → Matrix → Complex → Complex → Complex) (n : ℕ)
        → side_from ring long input timing gains rows side l n q ≡ side_at l timing input gains rows plain side n (channel_of l q)
    long_standard below side n =
        let p = bounds l in
        let early : channel_of l q < short_delay_of l = omega arith in
        side_standard ring long side n (rw (lt-ltb (channel_of l q) (short_delay_of l) early) (rw (add-zero n, same_band) at (long_back (channel_of l q) n 0 there early (omega arith))))

    short_standard : 35 ≤ q → q < 64 → (side : Bool → Matrix → Complex → Complex → Complex) (n : ℕ)
        → side_from short_delay short input timing gains rows side l n q ≡ side_at l timing input gains rows plain side n (channel_of l q)
    short_standard low high side n =
        let p = bounds l in
        let late : short_delay_of l ≤ channel_of l q = omega arith in
        side_standard short_delay short side n (rw (le-ltb (channel_of l q) (short_delay_of l) late) (rw (add-zero n, same_band) at (short_back (channel_of l q) n 0 late (omega arith) (omega arith))))

  side_rows_lem : (side : Bool → Matrix → Complex → Complex → Complex) (old mid new : List Float) → length old ≡ 128 * timing.slots
      → Banded 23 12 timing.slots (side_from ring long input timing gains rows side l) old mid
      → Banded 35 29 timing.slots (side_from short_delay short input timing gains rows side l) mid new
      → new ≡ side_rows l timing input gains rows plain side timing.slots old
  unfolding side_rows
  side_rows_lem side old mid new size a b =
      let p = bounds l in
      let first : qmf_band_of l (all_pass_of l) ≡ 23 = omega arith in
      rw first
      (banded_all
      (banded_more
      (banded_alike a (λ n q. side_at l timing input gains rows plain side n (channel_of l q)) (λ n q h u v. long_standard q u v side n))
      35 29 (omega arith)
      (banded_alike b (λ n q. side_at l timing input gains rows plain side n (channel_of l q)) (λ n q h u v. short_standard q (omega arith) u v side n)))
      (omega arith) size)

  -- ---- memory

  long_image : (slots : ℕ) (new : List Float) → length new ≡ 336 → KeptLong (turn % 14) slots input long new
      → new ≡ lists.rows (λ r. side_by_side (λ j. ring_cell 14 (turn + slots) (pasts (all_pass_of l + j) slots) r) 12) 14
  long_image slots new whole kept = ring_rows (λ r j. ring_cell 14 (turn + slots) (pasts (all_pass_of l + j) slots) r) new whole each
    where
      each : (r j : ℕ) → r < 14 → j < 12 → cell 1 new (24 * r + 2 * j) ≡ ring_cell 14 (turn + slots) (pasts (all_pass_of l + j) slots) r
      each r j u h =
          let p = bounds l in
          let a = age 14 (turn + slots) r in
          let small : a < 14 = age_small 14 (turn + slots) r (omega arith) in
          let i = 14 - suc a in
          let row : (turn % 14 + (slots + i)) % 14 ≡ r = onward turn slots i ∙ age_back 14 (turn + slots) r u in
          let band : 23 + j ≡ qmf_band_of l (all_pass_of l + j) = omega arith in
          let far : 14 - suc i ≡ a = omega arith in
          ap (λ (n : ℕ). cell 1 new (24 * n + 2 * j)) (sym row)
          ∙ kept i j (omega arith) h
          ∙ ap (earlier ring long input (slots + i)) band
          ∙ long_back (all_pass_of l + j) slots i (omega arith) (omega arith) (omega arith)
          ∙ ap (λ (n : ℕ). back n (pasts (all_pass_of l + j) slots)) far

  short_image : (slots : ℕ) (new : List Float) → length new ≡ 58 → KeptShort slots input short new
      → new ≡ side_by_side (λ j. back 0 (pasts (short_delay_of l + j) slots)) 29
  short_image slots new whole kept =
      side_by_side_lem (λ j. back 0 (pasts (short_delay_of l + j) slots)) 29 new whole
      (λ j h.
      let p = bounds l in
      let band : 35 + j ≡ qmf_band_of l (short_delay_of l + j) = omega arith in
      kept j h ∙ ap (earlier short_delay short input slots) band ∙ rw add-zero at (short_back (short_delay_of l + j) slots 0 (omega arith) (omega arith) (omega arith)))

  -- ---- the frame

  -- both sides, when all channels of a delay have come
  abbrev Spanned : Delay → List Float → List Float → List Float → List Float → List Float → Type 0
  Spanned d memory left right new-left new-right =
      Banded d.first d.bands timing.slots (side_from d memory input timing gains rows left_of l) left new-left
      × Banded d.first d.bands timing.slots (side_from d memory input timing gains rows right_of l) right new-right

  -- all of it, as the promise says it
  abbrev pub Done : List Float → List Float → List Float → List Float → List Float → Type 0
  Done left right new-left new-right plain_then =
      (new-left ≡ side_rows l timing input gains rows plain left_of timing.slots left)
      × ((new-right ≡ side_rows l timing input gains rows plain right_of timing.slots right)
      × (plain_then ≡ plain_of (turn + timing.slots) (λ j. pasts (all_pass_of l + j) timing.slots) (λ j. pasts (short_delay_of l + j) timing.slots)))

  -- both parts come back
  pub all_done : (left right mid-left mid-right new-left new-right long-then short-then : List Float) → Frame timing.slots input left right → length plain ≡ 394
      → Spanned ring long left right mid-left mid-right → Spanned short_delay short mid-left mid-right new-left new-right
      → length long-then ≡ length long → KeptLong (turn % 14) timing.slots input long long-then
      → length short-then ≡ length (part 336 58 (put 0 336 plain long-then)) → KeptShort timing.slots input (part 336 58 (put 0 336 plain long-then)) short-then
      → Done left right new-left new-right (put 336 58 (put 0 336 plain long-then) short-then)
  all_done left right mid-left mid-right new-left new-right long-then short-then f size a b same fourteen wide one = (
    side_rows_lem left_of left mid-left new-left f.left_long a.0 b.0,
    (
      side_rows_lem right_of right mid-right new-right f.right_long a.1 b.1,
      tail_back 336 58 mid short-then (omega (arith, mid_long))
          ∙ ap (λ (t : List Float). t ++ short-then) (take_at long-then (drop 336 plain) 336 whole)
          ∙ ap₂ (λ (p q : List Float). p ++ q) (long_image timing.slots long-then whole fourteen)
          (short_image timing.slots short-then (wide ∙ part_length 336 58 mid (omega (arith, mid_long))) (rw apart at one)),
    ),
  )
    where
      mid : List Float
      mid = put 0 336 plain long-then

      whole : length long-then ≡ 336
      whole = same ∙ part_length 0 336 plain (omega arith)

      mid_long : length mid ≡ 394
      mid_long = same_len_mid 0 336 plain long-then same ∙ size

      apart : part 336 58 mid ≡ short
      apart = part_put_behind 0 336 plain long-then (omega arith) 336 58 whole (omega arith)
