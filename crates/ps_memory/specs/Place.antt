-- Where the parts of a state lie in lent memory, what any memory reads as, and what a state is written as.
-- Assumes nothing.
use Rattle.std.specs.Prelude.{ℕ, ◌+◌, ◌*◌, ◌%◌, List, [], ◌∷◌, ◌++◌, Bool, true, false, cond, eqb, length, get_or, drop, Float}
use Rattle.std.specs.Float.{nan}
use Rattle.borders.specs.Borders.{slots_of}
use Rattle.exact_numbers.specs.Numbers.{kept_number, number_in, kept_flag, flag_in}
use Rattle.layout.specs.declared.Layout.{Layout}
use Rattle.layout.specs.declared.Layout.TheVariants.{Bands20, Bands34}
use Rattle.lists.specs.Part.{part}
use Rattle.ps_data.specs.declared.PsLines.{PsLines}
use Rattle.ps_rows.specs.declared.Row.{Row}
use Rattle.ps_state.specs.declared.PsCarried.{PsCarried}
use Rattle.ps_state.specs.declared.PsDecoder.{PsDecoder}
use Rattle.ps_state.specs.State.{sound_long, carried_of, sound_of, decoder_in, fresh_decoder}
use Rattle.ps_memory.specs.Packed.{packed, unpacked}

-- ---- places

-- layout (1 where 34 bands), cued, slots, turn
abbrev pub head_long : ℕ
head_long = 4

-- a kept row: its count, and its 34 places in 17 floats
abbrev pub row_long : ℕ
row_long = 18

-- what the lines have left: configured, then the rows of IID, ICC, IPD and OPD
abbrev pub lines_long : ℕ
lines_long = 1 + 4 * row_long

-- the phase indices, two to a float
abbrev pub phases_long : ℕ
phases_long = 68

abbrev pub lines_at : ℕ
lines_at = head_long

abbrev pub phases_at : ℕ
phases_at = lines_at + lines_long

abbrev pub sound_at : ℕ
sound_at = phases_at + phases_long

-- how many numbers a state takes
abbrev pub numbers : ℕ
numbers = sound_at + sound_long

-- ---- single numbers

abbrev pub layout_in : Float → Layout
layout_in x = cond (flag_in x) Bands34 Bands20

abbrev pub wide : Layout → Bool
wide Bands20 = false
wide Bands34 = true

-- any float reads as 6..32 slots
abbrev pub slots_in : Float → ℕ
slots_in x = slots_of (number_in 32 x)

-- and as a turn of 0..419
abbrev pub turn_in : Float → ℕ
turn_in x = number_in 419 x

unfoldable pub head_image : Layout → Bool → ℕ → ℕ → List Float
head_image layout cued asked turn = kept_flag (wide layout) ∷ kept_flag cued ∷ kept_number (slots_of asked) ∷ kept_number (turn % 420) ∷ []

-- ---- what the lines have left

unfoldable pub row_of : List Float → Row
row_of m = record { at = unpacked 17 (part 1 17 m); used = number_in 34 (get_or m 0 nan) }

unfoldable pub row_image : Row → List Float
row_image r = kept_number r.used ∷ packed 17 r.at

-- the kept rows stand behind the flag
abbrev pub row_place : ℕ → ℕ
row_place i = 1 + i * row_long

abbrev pub row_at : ℕ → List Float → List Float
row_at i m = part (row_place i) row_long m

unfoldable pub lines_of : List Float → PsLines
lines_of m =
    record {
      configured = flag_in (get_or m 0 nan);
      rows = record { iid = row_of (row_at 0 m); icc = row_of (row_at 1 m); ipd = row_of (row_at 2 m); opd = row_of (row_at 3 m) };
    }

unfoldable pub lines_image : PsLines → List Float
lines_image s =
    kept_flag s.configured ∷ (row_image s.rows.iid ++ (row_image s.rows.icc ++ (row_image s.rows.ipd ++ row_image s.rows.opd)))

-- ---- a whole state

-- what is small in a state, and the memory of the state: behind it stands the sound as it is
unfoldable pub small_image : PsCarried → List Float
small_image s = head_image s.layout s.cued s.asked s.turn ++ (lines_image s.lines ++ packed phases_long s.phases)

unfoldable pub image : PsDecoder → List Float
image s = small_image (carried_of s) ++ sound_of s

-- what is small in the state that a memory holds, and that state
unfoldable pub carried_in : List Float → PsCarried
carried_in m =
    record {
      asked = slots_in (get_or m 2 nan);
      layout = layout_in (get_or m 0 nan);
      cued = flag_in (get_or m 1 nan);
      lines = lines_of (part lines_at lines_long m);
      phases = unpacked phases_long (part phases_at phases_long m);
      turn = turn_in (get_or m 3 nan);
    }

unfoldable pub loaded : List Float → PsDecoder
loaded m = decoder_in (carried_in m) (part sound_at sound_long m)

-- a memory of another length reads as what is small in a fresh decoder, and is left as it is
unfoldable pub loaded_from : List Float → PsCarried
loaded_from m = cond (eqb (length m) numbers) (carried_in m) (carried_of (fresh_decoder 32))

unfoldable pub stored_in : PsCarried → List Float → List Float
stored_in s m = cond (eqb (length m) numbers) (small_image s ++ drop sound_at m) m

unfoldable pub started_in : ℕ → List Float → List Float
started_in asked m = cond (eqb (length m) numbers) (image (fresh_decoder asked)) m
