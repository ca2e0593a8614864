-- What a ring holds, by `lists`' relation between the two. Assumes nothing.
use Prim.Native.Nat.{ℕ, ◌%◌, ◌<◌}
use native.Mathlib.Omega.{arith}
use mathlib.Core.Path.{◌≡◌, sym, ap, ◌∙◌}
use mathlib.Core.List.{List}
use Rattle.complex.specs.declared.Complex.{Complex}
use Rattle.lists.specs.Ring.{Ring, age}
use Rattle.lists.proofs.Maps.{tabulate_at}
use Rattle.lists.proofs.Ring.{age_small, age_back, ring_cell_lem, ring_of}
use Rattle.standard.specs.Channel.{back}
use Rattle.standard.specs.Numbers.{nought}
use Rattle.planar.specs.Rings.{ring_cell, ringed}

module _ (d t : ℕ) where
  pub ringed_back : (cell : ℕ → Complex) (i : ℕ) → i < d → back i (ringed d t cell) ≡ cell (age d t i)
  ringed_back cell i h = tabulate_at (λ i. cell (age d t i)) d i nought h

  -- whatever cells there are, they are the ring of that history
  pub ring_ringed : 0 < d → (cell : ℕ → Complex) → Ring nought d (t % d) cell (ringed d t cell)
  ring_ringed some cell =
      ring_of nought d t cell (ringed d t cell) some
      (λ j l. sym (ringed_back cell (age d t j) (age_small d t j some) ∙ ap cell (age_back d t j l)))

  -- and the cells of a history's ring hold it again, as far back as the ring reaches
  pub ringed_ring : (cell : ℕ → Complex) (history : List Complex) → ((j : ℕ) → j < d → cell j ≡ ring_cell d t history j)
      → (i : ℕ) → i < d → back i (ringed d t cell) ≡ back i history
  ringed_ring cell history is i h =
      let some : 0 < d = omega arith in
      ringed_back cell i h ∙ is (age d t i) (age_small d t i some) ∙ ap (λ (n : ℕ). back n history) (age_back d t i h)
