-- Slots of a frame, and the borders of its envelopes (§8.6.4.6.4, Annex 8.A.3; document 01, 'Sound'). Assumes nothing.
use Rattle.std.specs.Prelude.{ℕ, ◌+◌, ◌-◌, ◌*◌, ◌/◌, min, max, List, Bool, cond, get_or}
use Rattle.lists.specs.Rows.{tabulate}

-- asked slots are clamped to 6..32
abbrev pub slots_of : ℕ → ℕ
slots_of asked = max 6 (min 32 asked)

-- FIX_BORDERS: envelopes of nearly equal length
abbrev pub fixed_border : ℕ → ℕ → ℕ → ℕ
fixed_border slots envelopes e = slots * (e + 1) / envelopes - 1

-- VAR_BORDERS: as the line has it, capped at the last slot
abbrev pub variable_border : ℕ → List ℕ → ℕ → ℕ
variable_border slots positions e = min (get_or positions e 0) (slots - 1)

abbrev pub border_of : ℕ → Bool → ℕ → List ℕ → ℕ → ℕ
border_of slots variable envelopes positions e = cond variable (variable_border slots positions e) (fixed_border slots envelopes e)

-- the borders of a frame, one for each envelope
abbrev pub borders_of : ℕ → Bool → ℕ → List ℕ → List ℕ
borders_of slots variable envelopes positions = tabulate (border_of slots variable envelopes positions) envelopes
