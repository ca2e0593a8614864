-- What the memory of the delays behind the all-pass channels holds, cell by cell, and that their counter may wrap. Assumes nothing.
use Prim.Native.Nat.{ℕ, ◌+◌, ◌*◌, ◌%◌, ◌<◌}
use native.Mathlib.Omega.{arith}
use mathlib.Core.Path.{◌≡◌, refl, sym, ap, ◌∙◌}
use mathlib.Core.List.{[], ◌∷◌, ◌++◌}
use lib.Ieee.{nan}
use lib.ListN.{length, get_or, length-append, get_or-append}
use lib.Seq.{get_or-append-add}
use Rattle.complex.specs.declared.Complex.{Complex}
use Rattle.layout.specs.declared.Layout.{Layout}
use Rattle.layout.specs.Numbers.{all_pass_of, short_delay_of}
use Rattle.lists.specs.Rows.{rows}
use Rattle.lists.proofs.Rows.{rows_length, rows_at}
use Rattle.planar.specs.Cells.{cell, side_by_side}
use Rattle.planar.specs.Rings.{ring_cell}
use Rattle.planar.proofs.Cells.{by_parts}
use Rattle.ps_decorr_allpass.proofs.Wraps.{ring_wraps}
use Rattle.standard.specs.Channel.{Channel, back}
use Rattle.ps_decorr.specs.Channels.{plain_with}

-- numbers side by side
module _ (f : ℕ → Complex) (n : ℕ) where
  side_length : length (side_by_side f n) ≡ n * 2
  side_length = rows_length (λ i. (f i).re ∷ (f i).im ∷ []) 2 n (λ i u. refl)

  side_at : (j : ℕ) → j < n → cell 1 (side_by_side f n) (2 * j) ≡ f j
  side_at j u =
      let re : 2 * j ≡ j * 2 + 0 = omega arith in
      let im : 2 * j + 1 ≡ j * 2 + 1 = omega arith in
      by_parts
      (ap (λ (m : ℕ). get_or (side_by_side f n) m nan) re ∙ rows_at (λ i. (f i).re ∷ (f i).im ∷ []) 2 n (λ i u. refl) j 0 nan u (omega arith))
      (ap (λ (m : ℕ). get_or (side_by_side f n) m nan) im ∙ rows_at (λ i. (f i).re ∷ (f i).im ∷ []) 2 n (λ i u. refl) j 1 nan u (omega arith))

module _ (l : Layout) (channel : ℕ → Channel) (t : ℕ) where
  abbrev row : ℕ → ℕ → Complex
  row r j = ring_cell 14 t (channel (all_pass_of l + j)).past r

  abbrev newest : ℕ → Complex
  newest j = back 0 (channel (short_delay_of l + j)).past

  ring_length : length (rows (λ r. side_by_side (row r) 12) 14) ≡ 336
  ring_length = rows_length (λ r. side_by_side (row r) 12) 24 14 (λ r u. side_length (row r) 12)

  pub plain_length : length (plain_with l t channel) ≡ 394
  unfolding plain_with
  plain_length = simp (length-append, ring_length, side_length newest 29)

  pub long_held : (r j : ℕ) → r < 14 → j < 12 → cell 1 (plain_with l t channel) (24 * r + 2 * j) ≡ row r j
  unfolding plain_with
  long_held r j u v = by_parts (at (2 * j) (24 * r + 2 * j) (omega arith) (omega arith)) (at (2 * j + 1) (24 * r + 2 * j + 1) (omega arith) (omega arith)) ∙ side_at (row r) 12 j v
    where
      at : (i m : ℕ) → i < 24 → m ≡ r * 24 + i → get_or (plain_with l t channel) m nan ≡ get_or (side_by_side (row r) 12) i nan
      at i m w e =
          ap (λ (n : ℕ). get_or (plain_with l t channel) n nan) e
          ∙ get_or-append (rows (λ r. side_by_side (row r) 12) 14) (side_by_side newest 29) nan (r * 24 + i) (omega (arith, ring_length))
          ∙ rows_at (λ r. side_by_side (row r) 12) 24 14 (λ r u. side_length (row r) 12) r i nan u w

  pub short_held : (j : ℕ) → j < 29 → cell 1 (plain_with l t channel) (336 + 2 * j) ≡ newest j
  unfolding plain_with
  short_held j u = by_parts (at (2 * j) (336 + 2 * j) (omega arith)) (at (2 * j + 1) (336 + 2 * j + 1) (omega arith)) ∙ side_at newest 29 j u
    where
      at : (i m : ℕ) → m ≡ 336 + i → get_or (plain_with l t channel) m nan ≡ get_or (side_by_side newest 29) i nan
      at i m e =
          ap (λ (n : ℕ). get_or (plain_with l t channel) n nan) (e ∙ ap (λ (n : ℕ). n + i) (sym ring_length))
          ∙ get_or-append-add (rows (λ r. side_by_side (row r) 12) 14) (side_by_side newest 29) i nan

  pub plain_wraps : plain_with l (t % 420) channel ≡ plain_with l t channel
  unfolding plain_with
  plain_wraps = λ i. rows (λ r. side_by_side (λ j. ring_wraps t 14 refl (channel (all_pass_of l + j)).past r i) 12) 14 ++ side_by_side newest 29
