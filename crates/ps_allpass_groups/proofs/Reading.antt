-- The channel that cells hold, read out of them, and the cells of a channel. Assumes nothing.
use mathlib.Core.Path.{◌≡◌}
use Prim.Native.Nat.{ℕ, ◌+◌, ◌<◌}
use native.Mathlib.Omega.{arith}
use Rattle.complex.specs.declared.Complex.{Complex}
use Rattle.lists.proofs.Ring.{ring_cell_lem}
use Rattle.planar.specs.Rings.{ring_cell, ringed}
use Rattle.planar.proofs.Rings.{ring_ringed}
use Rattle.standard.specs.Channel.{Channel}
use Rattle.ps_allpass_groups.specs.Rings.{Holds}

-- the channel that is read out of cells, after t slots
abbrev pub read_channel : ℕ → (ℕ → Complex) → Channel
read_channel t f =
    record {
      past = ringed 2 t f;
      first = ringed 3 t (λ j. f (2 + j));
      second = ringed 4 t (λ j. f (5 + j));
      third = ringed 5 t (λ j. f (9 + j));
    }

-- whatever stands in the cells, they hold that channel
pub holds_read : (t : ℕ) (f : ℕ → Complex) → Holds t f (read_channel t f)
holds_read t f =
    record {
      past = ring_ringed 2 t (omega arith) f;
      first = ring_ringed 3 t (omega arith) (λ j. f (2 + j));
      second = ring_ringed 4 t (omega arith) (λ j. f (5 + j));
      third = ring_ringed 5 t (omega arith) (λ j. f (9 + j));
    }

-- every cell, by the ring that it lies in
pub record CellsOf (t : ℕ) (f : ℕ → Complex) (c : Channel) : Type 0 where
  pub past : (j : ℕ) → j < 2 → f j ≡ ring_cell 2 t c.past j
  pub first : (j : ℕ) → j < 3 → f (2 + j) ≡ ring_cell 3 t c.first j
  pub second : (j : ℕ) → j < 4 → f (5 + j) ≡ ring_cell 4 t c.second j
  pub third : (j : ℕ) → j < 5 → f (9 + j) ≡ ring_cell 5 t c.third j

pub holds_cells : (t : ℕ) (f : ℕ → Complex) (c : Channel) → Holds t f c → CellsOf t f c
holds_cells t f c r =
    record {
      past = ring_cell_lem t r.past;
      first = ring_cell_lem t r.first;
      second = ring_cell_lem t r.second;
      third = ring_cell_lem t r.third;
    }
