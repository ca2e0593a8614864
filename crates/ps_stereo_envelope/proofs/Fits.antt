-- Whether an envelope is one of a frame, and the lists have room for the layout's bands. Assumes nothing.
use mathlib.Core.Path.{◌≡◌}
use mathlib.Core.Bool.{true, false}
use mathlib.Core.List.{List}
use Prim.Native.Nat.{ℕ, ◌*◌, ◌<◌, ◌≤◌}
use borrow.Author.Tests.{lt-ltb, le-ltb, le-leb, lt-leb}
use lib.Ieee.{Float}
use lib.IntN.{ℤ}
use lib.ListN.{length}
use Rattle.layout.specs.declared.Layout.{Layout}
use Rattle.layout.specs.Numbers.{bands_of}
use Rattle.limits.specs.Limits as limits
use Rattle.standard.specs.Mixing.{Cues}
use Rattle.standard.specs.declared.Modes.{Modes}
use Rattle.ps_stereo_envelope.specs.Envelope.{fits, rows_then, kept_then, rows_after, kept_after}

module _ (coefficients directions : List ℤ) (l : Layout) (modes : Modes) (cues : Cues) (phases : List ℤ) (e : ℕ) (old : List Float) where
  -- what is so where nothing changes
  abbrev pub Kept : Type 0
  Kept = (phases ≡ kept_after l modes cues phases e old) × (old ≡ rows_after coefficients directions l modes cues phases e old)

  unfit : fits l phases e old ≡ false → Kept
  unfolding kept_after rows_after
  unfit h = (rw h, rw h)

  pub late : limits.envelopes ≤ e → Kept
  late h = unfit (rw (le-ltb e limits.envelopes h))

  module _ (early : e < limits.envelopes) where
    pub no_phases : length phases < 4 * bands_of l → Kept
    no_phases h = unfit (rw (lt-ltb e limits.envelopes early, lt-leb (4 * bands_of l) (length phases) h))

    module _ (long : 4 * bands_of l ≤ length phases) where
      pub no_rows : length old < limits.course * bands_of l → Kept
      no_rows h = unfit (rw (lt-ltb e limits.envelopes early, le-leb (4 * bands_of l) (length phases) long, lt-leb (limits.course * bands_of l) (length old) h))

      module _ (room : limits.course * bands_of l ≤ length old) where
        fit : fits l phases e old ≡ true
        fit = rw (lt-ltb e limits.envelopes early, le-leb (4 * bands_of l) (length phases) long, le-leb (limits.course * bands_of l) (length old) room)

        pub kept_fit : kept_then l modes cues phases ≡ kept_after l modes cues phases e old
        unfolding kept_after
        kept_fit = rw fit

        pub rows_fit : rows_then coefficients directions l modes cues phases e old ≡ rows_after coefficients directions l modes cues phases e old
        unfolding rows_after
        rows_fit = rw fit
