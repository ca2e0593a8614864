-- Document 01, 'The cue line': how large a frame and its line can be. Assumes nothing.
use Rattle.std.specs.Prelude.{ℕ, ◌+◌, ◌*◌}

-- envelopes of a frame
abbrev pub envelopes : ℕ
envelopes = 4

-- bytes 0 to 3, then for each envelope a border and four rows, of at most 34, 34, 17 and 17 deltas after a time byte
abbrev pub bytes : ℕ
bytes = 4 + 107 * envelopes

-- two digits a byte
abbrev pub digits : ℕ
digits = 2 * bytes

-- where coefficients stand: at the border kept from the frame before, and at each envelope's
abbrev pub borders : ℕ
borders = envelopes + 1

-- a band's course: eight numbers at each border
abbrev pub course : ℕ
course = 8 * borders

-- the courses of 34 bands
abbrev pub matrices : ℕ
matrices = 34 * course

-- for each envelope how far each of 32 slots lies on the way to its border
abbrev pub fractions : ℕ
fractions = 32 * envelopes
