-- The frame that fits its rows is done whole, and one that does not changes nothing. Assumes nothing.
use mathlib.Core.Path.{◌≡◌}
use mathlib.Core.Logic.{◌≢◌}
use mathlib.Core.Bool.{Bool, true, false}
use mathlib.Core.List.{List}
use Prim.Native.Nat.{ℕ, ◌*◌, ◌<◌, ◌≤◌, min}
use borrow.Author.Tests.{eq-eqb, ne_eqb, le-leb, lt-leb}
use lib.Dec.{eqb, leb}
use lib.Ieee.{Float}
use lib.ListN.{length}
use Rattle.layout.specs.declared.Layout.{Layout}
use Rattle.layout.specs.Numbers.{bands_of}
use Rattle.limits.specs.Limits as limits
use Rattle.ps_stereo_slots.specs.declared.Timing.{Timing}
use Rattle.ps_delay_channels.specs.Channels.{fits, left_after, right_after, plain_after, side_rows, side_at, matrix_then, decorrelated, past_then}
use Rattle.ps_delay_channels.proofs.Finishing.{Done}

module _ (l : Layout) (timing : Timing) (input gains rows plain left right : List Float) where
  abbrev fitting : Bool
  fitting = fits l timing input gains rows plain left right

  abbrev pub Outcome : List Float → List Float → List Float → Type 0
  Outcome new-left new-right plain_then =
      (new-left ≡ left_after l timing input gains rows plain left right)
      × ((new-right ≡ right_after l timing input gains rows plain left right) × (plain_then ≡ plain_after l timing input gains rows plain left right))

  unfit : fitting ≡ false → Outcome left right plain
  unfolding left_after right_after plain_after
  unfit e = (rw e, (rw e, rw e))

  module _ (within : ℕ) (counted : within ≡ min timing.slots 32) (bands : ℕ) (banded : bands ≡ bands_of l) where
    pub left_unfit : length left ≢ 128 * within → Outcome left right plain
    left_unfit h = unfit (rw (ne_eqb (length left) (128 * min timing.slots 32) (rw (← counted) h)))

    module _ (left-fits : length left ≡ 128 * within) where
      left_is : eqb (length left) (128 * min timing.slots 32) ≡ true
      left_is = eq-eqb (length left) (128 * min timing.slots 32) (rw (← counted) left-fits)

      pub right_unfit : length right ≢ 128 * within → Outcome left right plain
      right_unfit h = unfit (rw (left_is, ne_eqb (length right) (128 * min timing.slots 32) (rw (← counted) h)))

      module _ (right-fits : length right ≡ 128 * within) where
        right_is : eqb (length right) (128 * min timing.slots 32) ≡ true
        right_is = eq-eqb (length right) (128 * min timing.slots 32) (rw (← counted) right-fits)

        pub input_unfit : length input < 128 * within → Outcome left right plain
        input_unfit h = unfit (rw (left_is, right_is, lt-leb (128 * min timing.slots 32) (length input) (rw (← counted) h)))

        module _ (input-fits : 128 * within ≤ length input) where
          input_is : leb (128 * min timing.slots 32) (length input) ≡ true
          input_is = le-leb (128 * min timing.slots 32) (length input) (rw (← counted) input-fits)

          pub gains_unfit : length gains < 32 * bands → Outcome left right plain
          gains_unfit h = unfit (rw (left_is, right_is, input_is, lt-leb (32 * bands_of l) (length gains) (rw (← banded) h)))

          module _ (gains-fit : 32 * bands ≤ length gains) where
            gains_are : leb (32 * bands_of l) (length gains) ≡ true
            gains_are = le-leb (32 * bands_of l) (length gains) (rw (← banded) gains-fit)

            pub rows_unfit : length rows < limits.course * bands → Outcome left right plain
            rows_unfit h = unfit (rw (left_is, right_is, input_is, gains_are, lt-leb (limits.course * bands_of l) (length rows) (rw (← banded) h)))

            module _ (rows_fit : limits.course * bands ≤ length rows) where
              rows_are : leb (limits.course * bands_of l) (length rows) ≡ true
              rows_are = le-leb (limits.course * bands_of l) (length rows) (rw (← banded) rows_fit)

              pub plain_unfit : length plain ≢ 394 → Outcome left right plain
              plain_unfit h = unfit (rw (left_is, right_is, input_is, gains_are, rows_are, ne_eqb (length plain) 394 h))

              -- slots that were cut change neither sides nor histories
              pub fit : length plain ≡ 394 → (new-left new-right plain_then : List Float)
                  → Done l (record { borders = timing.borders; count = timing.count; slots = within; turn = timing.turn }) input gains rows plain left right new-left new-right plain_then
                  → Outcome new-left new-right plain_then
              unfolding left_after right_after plain_after side_rows side_at matrix_then decorrelated past_then
              fit h new-left new-right plain_then d =
                  let yes : fitting ≡ true = rw (left_is, right_is, input_is, gains_are, rows_are, eq-eqb (length plain) 394 h) in
                  (rw (yes, ← counted) d.0, (rw (yes, ← counted) d.1.0, rw (yes, ← counted) d.1.1))
