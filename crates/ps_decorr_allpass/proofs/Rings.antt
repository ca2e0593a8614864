-- The four rings of a lane: which cells are whose, those of silence, and that a channel is what its cells are. Assumes nothing.
use Rattle.std.proofs.Common.{◌≡◌, ℕ, ◌+◌, ◌-◌, ◌<◌, Bool, true, false, cond, ltb, refl, arith, le-ltb, lt-ltb}
use Rattle.complex.specs.declared.Complex.{Complex}
use Rattle.lists.specs.Ring.{age}
use Rattle.lists.proofs.Maps.{tabulate_same}
use Rattle.lists.proofs.Ring.{age_small}
use Rattle.planar.specs.Rings.{ring_cell, ringed}
use Rattle.standard.specs.Channel.{Channel, silent}
use Rattle.standard.specs.Numbers.{nought}
use Rattle.ps_decorr_allpass.specs.Memory.{channel_of, cell_of}

module _ (t : ℕ) (c : Channel) (j : ℕ) where
  pub cell_past : j < 2 → cell_of t c j ≡ ring_cell 2 t c.past j
  unfolding cell_of
  cell_past u = rw (lt-ltb j 2 u)

  pub cell_first : j < 3 → cell_of t c (2 + j) ≡ ring_cell 3 t c.first j
  unfolding cell_of
  cell_first u =
      let e : 2 + j - 2 ≡ j = omega arith in
      rw (le-ltb (2 + j) 2 (omega arith), lt-ltb (2 + j) 5 (omega arith), e)

  pub cell_second : j < 4 → cell_of t c (5 + j) ≡ ring_cell 4 t c.second j
  unfolding cell_of
  cell_second u =
      let e : 5 + j - 5 ≡ j = omega arith in
      rw (le-ltb (5 + j) 2 (omega arith), le-ltb (5 + j) 5 (omega arith), lt-ltb (5 + j) 9 (omega arith), e)

  pub cell_third : j < 5 → cell_of t c (9 + j) ≡ ring_cell 5 t c.third j
  unfolding cell_of
  cell_third u =
      let e : 9 + j - 9 ≡ j = omega arith in
      rw (le-ltb (9 + j) 2 (omega arith), le-ltb (9 + j) 5 (omega arith), le-ltb (9 + j) 9 (omega arith), e)

pub cell_silent : (t j : ℕ) → cell_of t silent j ≡ nought
unfolding cell_of
cell_silent t j = go (ltb j 2) (ltb j 5) (ltb j 9)
  where
    go : (a b c : Bool) → cond a nought (cond b nought (cond c nought nought)) ≡ nought
    go true b c = refl
    go false true c = refl
    go false false true = refl
    go false false false = refl

pub ringed_same : (d t : ℕ) (f g : ℕ → Complex) → 0 < d → ((j : ℕ) → j < d → f j ≡ g j) → ringed d t f ≡ ringed d t g
ringed_same d t f g some same = tabulate_same (λ n. f (age d t n)) (λ n. g (age d t n)) d (λ n u. same (age d t n) (age_small d t n some))

pub channel_same : (t : ℕ) (f g : ℕ → Complex) → ((j : ℕ) → j < 14 → f j ≡ g j) → channel_of t f ≡ channel_of t g
unfolding channel_of
channel_same t f g same =
    λ i. record {
      past = ringed_same 2 t f g (omega arith) (λ j u. same j (omega arith)) i;
      first = ringed_same 3 t (λ j. f (2 + j)) (λ j. g (2 + j)) (omega arith) (λ j u. same (2 + j) (omega arith)) i;
      second = ringed_same 4 t (λ j. f (5 + j)) (λ j. g (5 + j)) (omega arith) (λ j u. same (5 + j) (omega arith)) i;
      third = ringed_same 5 t (λ j. f (9 + j)) (λ j. g (9 + j)) (omega arith) (λ j u. same (9 + j) (omega arith)) i;
    }
