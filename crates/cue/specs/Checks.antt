-- Document 01, 'The cue line': the bytes of a line that must be in range, in the order in which they are looked at. Assumes nothing.
use Rattle.std.specs.Prelude.{ℕ, zero, suc, ◌+◌, List, [], ◌∷◌, ◌++◌, Option, Some, None, Bool, cond, leb}
use Rattle.limits.specs.Limits as limits
use Rattle.cue.specs.declared.Header.{Header}
use Rattle.cue.specs.declared.Block.{Block}
use Rattle.cue.specs.Fields.{at, borders_size, rows_in, places_of}

-- a byte's place, and what it may be
pub record Check : Type 0 where
  pub place : ℕ
  pub fits : ℕ → Bool

abbrev pub up_to : ℕ → ℕ → Check
up_to most place = record { place = place; fits = λ b. leb b most }

-- the place of the first byte that fails
unfoldable pub found : List ℕ → List Check → Option ℕ
found bytes [] = None
found bytes (c ∷ cs) = cond (c.fits (at bytes c.place)) (found bytes cs) (Some c.place)

-- n bytes that stand `apart` bytes apart, the first at a place
unfoldable pub every : ℕ → ℕ → ℕ → ℕ → List Check
every most zero apart place = []
every most (suc n) apart place = up_to most place ∷ every most n apart (place + apart)

-- bits 4 to 7 of byte 0 are zero, the modes are 0 to 5 even where their kind is absent, and there are at most so many envelopes
abbrev pub head_checks : List Check
head_checks = up_to 15 0 ∷ up_to 5 1 ∷ up_to 5 2 ∷ up_to limits.envelopes 3 ∷ []

-- each border is 0 to 31
abbrev pub border_checks : Header → List Check
border_checks h = every 31 (borders_size h) 1 4

-- each envelope of a kind begins with 0 (frequency) or 1 (time)
abbrev pub time_checks : ℕ → Block → List Check
time_checks envelopes k = every 1 (rows_in envelopes k) (k.count + 1) k.place

-- the borders, then the time bytes of IID, ICC, IPD and OPD
abbrev pub body_checks : Header → List Check
body_checks h =
    let times = time_checks h.envelopes in
    border_checks h ++ (times (places_of h).iid ++ (times (places_of h).icc ++ (times (places_of h).ipd ++ times (places_of h).opd)))
