-- How large the counts of a configuration and the places of a header can be. Assumes nothing.
use mathlib.Core.Bool.{Bool, true, false, cond}
use Prim.Native.Nat.{ℕ, ◌+◌, ◌*◌, ◌%◌, ◌≤◌}
use native.Mathlib.Omega.{arith}
use native.Mathlib.Nat.{mul-le-mul}
use lib.Dec.{eqb, lit≤}
use Rattle.cue.specs.declared.Parameter.{Parameter}
use Rattle.cue.specs.declared.Config.{Config}
use Rattle.cue.specs.declared.Header.{Header}
use Rattle.cue.specs.declared.Block.{Block}
use Rattle.cue.specs.Fields.{by_mode, parameters_of, count_of, phase_count_of, borders_size, rows_in, behind, places_of}

-- of two, each at most n, the one picked
small : (t : Bool) {a b n : ℕ} → a ≤ n → b ≤ n → cond t a b ≤ n
small true ha hb = ha
small false ha hb = hb

by_mode_small : (mode a b c n : ℕ) → a ≤ n → b ≤ n → c ≤ n → by_mode mode a b c ≤ n
by_mode_small mode a b c n ha hb hc = small (eqb (mode % 3) 0) ha (small (eqb (mode % 3) 1) hb hc)

-- a kind brings at most 34 parameters
pub parameters_small : (p : Parameter) → parameters_of p ≤ 34
parameters_small p = by_mode_small p.mode 10 20 34 34 (lit≤ tt) (lit≤ tt) (lit≤ tt)

pub count_small : (p : Parameter) → count_of p ≤ 34
count_small p = small p.present (parameters_small p) (lit≤ tt)

pub phase_count_small : (c : Config) → phase_count_of c ≤ 34
phase_count_small c = small c.iid.present (by_mode_small c.iid.mode 5 11 17 34 (lit≤ tt) (lit≤ tt) (lit≤ tt)) (lit≤ tt)

pub borders_small : (h : Header) → h.envelopes ≤ 255 → borders_size h ≤ 255
borders_small h few = small h.variable few (omega arith)

-- at most 255 rows of at most 34 parameters and a time byte
pub size_small : {rows count : ℕ} → rows ≤ 255 → count ≤ 34 → rows * (count + 1) ≤ 8925
size_small few n = mul-le-mul {m₂ = 35} few (omega arith)

behind_near : (envelopes : ℕ) (k : Block) → envelopes ≤ 255 → k.count ≤ 34 → behind envelopes k ≤ k.place + 8925
behind_near envelopes k few n = let size = size_small {rows = rows_in envelopes k} (small k.present few (omega arith)) n in omega arith

-- a kind starts within 65536 bytes and has at most 34 parameters
abbrev pub Near : Block → Type 0
Near k = (k.place ≤ 65536) × (k.count ≤ 34)

pub record AllNear (h : Header) : Type 0 where
  pub iid : Near (places_of h).iid
  pub icc : Near (places_of h).icc
  pub ipd : Near (places_of h).ipd
  pub opd : Near (places_of h).opd
  pub end : (places_of h).end ≤ 65536

pub places_near : (h : Header) → h.envelopes ≤ 255 → AllNear h
unfolding places_of
places_near h few =
    let borders = borders_small h few in
    let iid_count = count_small h.config.iid in
    let icc_count = count_small h.config.icc in
    let phase_count = phase_count_small h.config in
    let icc_place = behind_near h.envelopes (places_of h).iid few iid_count in
    let ipd_place = behind_near h.envelopes (places_of h).icc few icc_count in
    let opd_place = behind_near h.envelopes (places_of h).ipd few phase_count in
    let end-place = behind_near h.envelopes (places_of h).opd few phase_count in
    record {
      iid = (omega arith, iid_count);
      icc = (omega arith, icc_count);
      ipd = (omega arith, phase_count);
      opd = (omega arith, phase_count);
      end = omega arith;
    }
