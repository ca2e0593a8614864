-- What stands on the desks for a channel, told by its numbers. Assumes nothing.
use mathlib.Core.Path.{◌≡◌, refl, sym, ap, ◌∙◌}
use mathlib.Core.Bool.{cond}
use mathlib.Core.List.{List}
use Prim.Native.Nat.{ℕ, ◌+◌, ◌-◌, ◌*◌, ◌/◌, ◌%◌, ◌<◌, ◌≤◌}
use native.Mathlib.Omega.{arith}
use lib.Dec.{ltb}
use lib.Ieee.{Float, nan, binary64, sub}
use lib.ListN.{get_or}
use Rattle.lists.specs.Part.{part}
use Rattle.lists.proofs.Parts.{part_at}
use Rattle.planar.specs.Cells.{cell}
use Rattle.planar.proofs.Cells.{by_parts}
use Rattle.ps_allpass_groups.specs.Desk.{chain_on, from_on, step_on, sample_on, duck_on}
use Rattle.ps_stereo_slots.proofs.Runs.{by_coefficients}
use Rattle.standard.specs.declared.Chain.{Chain}
use Rattle.standard.specs.declared.Link.{Link}
use Rattle.standard.specs.declared.Matrix.{Matrix}
use Rattle.ps_allpass_channels.specs.Desks.{desk_of}
use Rattle.ps_allpass_channels.specs.DeskNumbers.{number_at}

-- 11 to 18 are the eight coefficients at a border, 19 to 26 what they gain until another
abbrev pub way_number : List Float → ℕ → ℕ → ℕ → Float
way_number rows from to j =
    cond (ltb j 19) (get_or rows (from + (j - 11)) nan) (sub binary64 (get_or rows (to + (j - 19)) nan) (get_or rows (from + (j - 19)) nan))

-- what a channel's numbers make
abbrev link_of : (ℕ → Float) → ℕ → Link
link_of f j = record { rotation = record { re = f j; im = f (j + 1) }; feedback = f (j + 2) }

abbrev pub chain_of : (ℕ → Float) → Chain
chain_of f = record { fractional = record { re = f 0; im = f 1 }; first = link_of f 2; second = link_of f 5; third = link_of f 8 }

abbrev pub matrix_of : (ℕ → Float) → ℕ → Matrix
matrix_of f j =
    record {
      h11 = record { re = f j; im = f (j + 1) };
      h12 = record { re = f (j + 2); im = f (j + 3) };
      h21 = record { re = f (j + 4); im = f (j + 5) };
      h22 = record { re = f (j + 6); im = f (j + 7) };
    }

module _ (desks : List Float) (k : ℕ) (f : ℕ → Float) where
  abbrev desk : List Float
  desk = part (136 * (k / 4)) 136 desks

  -- numbers from `first` to before `end` are f's
  abbrev Are : ℕ → ℕ → Type 0
  Are first end = (j : ℕ) → first ≤ j → j < end → number_at desks k j ≡ f j

  -- number j stands at a place of the channel's desk, and so do two, and a link's three
  number : (j i : ℕ) → i ≡ k % 4 + 4 * j → j < 34 → number_at desks k j ≡ f j → get_or desk i nan ≡ f j
  number j i e u is =
      let at : 136 * (k / 4) + i ≡ 136 * (k / 4) + k % 4 + 4 * j = omega arith in
      part_at (136 * (k / 4)) 136 desks i nan (omega arith) ∙ ap (λ (n : ℕ). get_or desks n nan) at ∙ is

  pair : (j i : ℕ) → i ≡ k % 4 + 4 * j → j < 33 → Are j (j + 2) → cell 4 desk i ≡ record { re = f j; im = f (j + 1) }
  pair j i e u are = by_parts (number j i e (omega arith) (are j (omega arith) (omega arith))) (number (j + 1) (i + 4) (omega arith) (omega arith) (are (j + 1) (omega arith) (omega arith)))

  link : (j i : ℕ) → i ≡ k % 4 + 4 * j → j < 32 → Are j (j + 3) → record { rotation = cell 4 desk i; feedback = get_or desk (i + 8) nan } ≡ link_of f j
  link j i e u are =
      let turn = pair j i e (omega arith) (λ m a b. are m (omega arith) (omega arith)) in
      let back = number (j + 2) (i + 8) (omega arith) (omega arith) (are (j + 2) (omega arith) (omega arith)) in
      λ d. record { rotation = turn d; feedback = back d }

  pub chain_at : Are 0 11 → desk_of chain_on desks k ≡ chain_of f
  unfolding desk_of chain_on
  chain_at are =
      let i = k % 4 in
      let fractional = pair 0 i (omega arith) (omega arith) (λ m a b. are m (omega arith) (omega arith)) in
      let first = link 2 (8 + i) (omega arith) (omega arith) (λ m a b. are m (omega arith) (omega arith)) in
      let second = link 5 (20 + i) (omega arith) (omega arith) (λ m a b. are m (omega arith) (omega arith)) in
      let third = link 8 (32 + i) (omega arith) (omega arith) (λ m a b. are m (omega arith) (omega arith)) in
      λ d. record { fractional = fractional d; first = first d; second = second d; third = third d }

  pub from_at : Are 11 19 → desk_of from_on desks k ≡ matrix_of f 11
  unfolding desk_of from_on
  from_at are =
      let i = 44 + k % 4 in
      by_coefficients (pair 11 i (omega arith) (omega arith) (λ m a b. are m (omega arith) (omega arith)))
      (pair 13 (i + 8) (omega arith) (omega arith) (λ m a b. are m (omega arith) (omega arith)))
      (pair 15 (i + 16) (omega arith) (omega arith) (λ m a b. are m (omega arith) (omega arith)))
      (pair 17 (i + 24) (omega arith) (omega arith) (λ m a b. are m (omega arith) (omega arith)))

  pub step_at : Are 19 27 → desk_of step_on desks k ≡ matrix_of f 19
  unfolding desk_of step_on
  step_at are =
      let i = 76 + k % 4 in
      by_coefficients (pair 19 i (omega arith) (omega arith) (λ m a b. are m (omega arith) (omega arith)))
      (pair 21 (i + 8) (omega arith) (omega arith) (λ m a b. are m (omega arith) (omega arith)))
      (pair 23 (i + 16) (omega arith) (omega arith) (λ m a b. are m (omega arith) (omega arith)))
      (pair 25 (i + 24) (omega arith) (omega arith) (λ m a b. are m (omega arith) (omega arith)))

  pub sample_at_lem : Are 27 29 → desk_of sample_on desks k ≡ record { re = f 27; im = f 28 }
  unfolding desk_of sample_on
  sample_at_lem are = pair 27 (108 + k % 4) (omega arith) (omega arith) are

  pub duck_at : Are 29 30 → desk_of duck_on desks k ≡ f 29
  unfolding desk_of duck_on
  duck_at are = number 29 (116 + k % 4) (omega arith) (omega arith) (are 29 (omega arith) (omega arith))

-- ---- desks with the same numbers
module _ (old desks : List Float) (k : ℕ) where
  pub same_chain : ((j : ℕ) → j < 11 → number_at desks k j ≡ number_at old k j) → desk_of chain_on desks k ≡ desk_of chain_on old k
  same_chain same = chain_at desks k (number_at old k) (λ j a b. same j b) ∙ sym (chain_at old k (number_at old k) (λ j a b. refl))

  module _ (same : (j : ℕ) → j < 27 → number_at desks k j ≡ number_at old k j) where
    pub same_from : desk_of from_on desks k ≡ desk_of from_on old k
    same_from = from_at desks k (number_at old k) (λ j a b. same j (omega arith)) ∙ sym (from_at old k (number_at old k) (λ j a b. refl))

    pub same_step : desk_of step_on desks k ≡ desk_of step_on old k
    same_step = step_at desks k (number_at old k) (λ j a b. same j b) ∙ sym (step_at old k (number_at old k) (λ j a b. refl))
