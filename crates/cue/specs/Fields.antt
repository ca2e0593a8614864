-- Document 01, 'The cue line': bytes 0 to 3, and what stands where after them. Assumes nothing.
use Rattle.std.specs.Prelude.{ℕ, ◌+◌, ◌*◌, ◌/◌, ◌%◌, List, Bool, true, cond, leb, eqb, get_or}
use Rattle.cue.specs.declared.Parameter.{Parameter}
use Rattle.cue.specs.declared.Config.{Config}
use Rattle.cue.specs.declared.Header.{Header}
use Rattle.cue.specs.declared.Block.{Block}
use Rattle.cue.specs.declared.Places.{Places}

-- ---- modes

-- by mode modulo 3 (Tables 8.24 and 8.27)
abbrev pub by_mode : ℕ → ℕ → ℕ → ℕ → ℕ
by_mode mode a b c = cond (eqb (mode % 3) 0) a (cond (eqb (mode % 3) 1) b c)

-- parameters of an envelope, whether or not the kind is there
abbrev pub parameters_of : Parameter → ℕ
parameters_of p = by_mode p.mode 10 20 34

-- none where the kind is absent
abbrev pub count_of : Parameter → ℕ
count_of p = cond p.present (parameters_of p) 0

-- IPD and OPD parameters of an envelope, by iid_mode; none where IID is absent (Table 8.24)
abbrev pub phase_count_of : Config → ℕ
phase_count_of c = cond c.iid.present (by_mode c.iid.mode 5 11 17) 0

-- the fine IID quantiser for iid_mode 3 to 5, procedure Rb for icc_mode 3 to 5, even where the kind is absent
abbrev pub fine_of : Config → Bool
fine_of c = leb 3 c.iid.mode

abbrev pub rb_of : Config → Bool
rb_of c = leb 3 c.icc.mode

-- ---- bytes 0 to 3

abbrev pub at : List ℕ → ℕ → ℕ
at bytes i = get_or bytes i 0

-- byte 0: bit 0 IID present, bit 1 ICC present, bit 2 variable borders, bit 3 phase present
abbrev pub header_of : List ℕ → Header
header_of bytes =
    record {
      cued = true;
      config =
          record {
            iid = record { present = eqb (at bytes 0 % 2) 1; mode = at bytes 1 };
            icc = record { present = eqb (at bytes 0 / 2 % 2) 1; mode = at bytes 2 };
          };
      variable = eqb (at bytes 0 / 4 % 2) 1;
      phase = eqb (at bytes 0 / 8 % 2) 1;
      envelopes = at bytes 3;
    }

-- ---- what stands behind them

-- a border byte for each envelope, where borders are variable
abbrev pub borders_size : Header → ℕ
borders_size h = cond h.variable h.envelopes 0

-- a kind has a row for each envelope, none where it is absent
abbrev pub rows_in : ℕ → Block → ℕ
rows_in envelopes k = cond k.present envelopes 0

-- the place behind a kind, whose rows are a time byte and deltas each
abbrev pub behind : ℕ → Block → ℕ
behind envelopes k = k.place + rows_in envelopes k * (k.count + 1)

-- IID, ICC, IPD and OPD one after the other, and the line's end
unfoldable pub places_of : Header → Places
places_of h =
    let iid : Block = record { present = h.config.iid.present; count = count_of h.config.iid; place = 4 + borders_size h } in
    let icc : Block = record { present = h.config.icc.present; count = count_of h.config.icc; place = behind h.envelopes iid } in
    let ipd : Block = record { present = h.phase; count = phase_count_of h.config; place = behind h.envelopes icc } in
    let opd : Block = record { present = h.phase; count = phase_count_of h.config; place = behind h.envelopes ipd } in
    record { iid = iid; icc = icc; ipd = ipd; opd = opd; end = behind h.envelopes opd }
