-- A state that is read part by part. Assumes nothing.
use mathlib.Core.Path.{◌≡◌}
use mathlib.Core.List.{List}
use mathlib.Core.Bool.{Bool}
use Prim.Native.Nat.{ℕ}
use native.Mathlib.Omega.{arith}
use lib.ListN.{length, get_or}
use lib.IntN.{ℤ}
use lib.Ieee.{Float, nan}
use Rattle.exact_numbers.specs.Numbers.{number_in, flag_in}
use Rattle.layout.specs.declared.Layout.{Layout}
use Rattle.lists.specs.Part.{part}
use Rattle.lists.proofs.Parts.{part_length}
use Rattle.ps_data.specs.declared.PsLines.{PsLines}
use Rattle.ps_rows.specs.declared.Row.{Row}
use Rattle.ps_state.specs.declared.PsCarried.{PsCarried}
use Rattle.ps_memory.specs.Packed.{unpacked}
use Rattle.ps_memory.specs.Place.{row_long, lines_long, phases_long, lines_at, phases_at, numbers, layout_in, slots_in, turn_in, row_of, row_at, lines_of, carried_in}

pub row_read : (m : List Float) (at : List ℤ) (used : ℕ) → length m ≡ row_long → at ≡ unpacked (length (part 1 17 m)) (part 1 17 m)
    → used ≡ number_in 34 (get_or m 0 nan) → ◌≡◌ {A = Row} (record { at = at; used = used }) (row_of m)
unfolding row_of
row_read m at used l e f = rw (e, part_length 1 17 m (omega arith), f)

pub lines_read : (m : List Float) (configured : Bool) (a b c d : Row)
    → configured ≡ flag_in (get_or m 0 nan) → a ≡ row_of (row_at 0 m) → b ≡ row_of (row_at 1 m) → c ≡ row_of (row_at 2 m) → d ≡ row_of (row_at 3 m)
    → ◌≡◌ {A = PsLines} (record { configured = configured; rows = record { iid = a; icc = b; ipd = c; opd = d } }) (lines_of m)
unfolding lines_of
lines_read m configured a b c d ef ea eb ec ed = rw (ef, ea, eb, ec, ed)

pub carried_read : (m : List Float) (asked : ℕ) (layout : Layout) (cued : Bool) (lines : PsLines) (phases : List ℤ) (turn : ℕ) → length m ≡ numbers
    → asked ≡ slots_in (get_or m 2 nan) → layout ≡ layout_in (get_or m 0 nan) → cued ≡ flag_in (get_or m 1 nan) → lines ≡ lines_of (part lines_at lines_long m)
    → phases ≡ unpacked (length (part phases_at phases_long m)) (part phases_at phases_long m) → turn ≡ turn_in (get_or m 3 nan)
    → ◌≡◌ {A = PsCarried} (record { asked = asked; layout = layout; cued = cued; lines = lines; phases = phases; turn = turn }) (carried_in m)
unfolding carried_in
carried_read m asked layout cued lines phases turn l ea el ec ei ep et =
    rw (ea, el, ec, ei, ep, part_length phases_at phases_long m (omega arith), et)
