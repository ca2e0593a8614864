-- What the crate's own functions ask and answer. Assumes nothing.
use Rattle.std.specs.Prelude.{List, ℤ, pos, get_or}
use Rattle.ps_kinds.specs.declared.Kinds.{Kinds}
use Rattle.standard.specs.Mixing.{Cue, Phases}

abbrev pub cue_in : Kinds ℤ → Cue
cue_in i = record { iid = i.iid; icc = i.icc; ipd = i.ipd; opd = i.opd }

-- two indices before an envelope
abbrev pub before : List ℤ → Phases
before two = record { oldest = get_or two 0 (pos 0); previous = get_or two 1 (pos 0) }
