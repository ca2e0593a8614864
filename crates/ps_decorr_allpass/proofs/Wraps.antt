-- The counter of slots may wrap at 420, of which every ring's length is a divisor: what the rings hold stays. Assumes nothing.
use Rattle.std.proofs.Common.{◌≡◌, ℕ, suc, ◌+◌, ◌-◌, ◌*◌, ◌%◌, cond, ltb, List, length, get_or, sym, refl, ap, ◌∙◌}
use native.Mathlib.Nat.{mod-add-mod, mod-mod_of_dvd, dvd_of_mod-eq-zero}
use lib.Ieee.{Float, nan}
use Rattle.complex.specs.declared.Complex.{Complex}
use Rattle.layout.specs.declared.Layout.{Layout}
use Rattle.layout.specs.Numbers.{all_pass_of, groups_of}
use Rattle.lists.specs.Ring.{age}
use Rattle.lists.specs.Rows.{tabulate}
use Rattle.planar.specs.Rings.{ring_cell}
use Rattle.standard.specs.Channel.{Channel, back}
use Rattle.standard.specs.Numbers.{zero}
use Rattle.ps_decorr_allpass.specs.Memory.{channel_of, cell_of, owner_of, number_of, delays_with}

age_wraps : (d : ℕ) → 420 % d ≡ 0 → (t j : ℕ) → age d (t % 420) j ≡ age d t j
age_wraps d e t j =
    sym (mod-add-mod (t % 420) d (d - suc j))
    ∙ ap (λ (n : ℕ). (n + (d - suc j)) % d) (mod-mod_of_dvd d t (dvd_of_mod-eq-zero d e))
    ∙ mod-add-mod t d (d - suc j)

module _ (t : ℕ) where
  pub ring_wraps : (d : ℕ) → 420 % d ≡ 0 → (h : List Complex) (j : ℕ) → ring_cell d (t % 420) h j ≡ ring_cell d t h j
  ring_wraps d e h j = ap (λ (n : ℕ). back n h) (age_wraps d e t j)

  pub channel_wraps : (cells : ℕ → Complex) → channel_of (t % 420) cells ≡ channel_of t cells
  unfolding channel_of
  channel_wraps cells = λ i. record {
    past = tabulate (λ n. cells (age_wraps 2 refl t n i)) 2;
    first = tabulate (λ n. cells (2 + age_wraps 3 refl t n i)) 3;
    second = tabulate (λ n. cells (5 + age_wraps 4 refl t n i)) 4;
    third = tabulate (λ n. cells (9 + age_wraps 5 refl t n i)) 5;
  }

  cell_wraps : (c : Channel) (j : ℕ) → cell_of (t % 420) c j ≡ cell_of t c j
  unfolding cell_of
  cell_wraps c j = λ i.
      cond (ltb j 2) (back (age_wraps 2 refl t j i) c.past)
      (cond (ltb j 5) (back (age_wraps 3 refl t (j - 2) i) c.first)
      (cond (ltb j 9) (back (age_wraps 4 refl t (j - 5) i) c.second) (back (age_wraps 5 refl t (j - 9) i) c.third)))

  pub delays_wraps : (l : Layout) (channel : ℕ → Channel) (old : List Float) → delays_with l (t % 420) channel old ≡ delays_with l t channel old
  unfolding delays_with
  delays_wraps l channel old = λ i.
      tabulate (λ m. cond (ltb m (112 * groups_of l)) (cond (ltb (owner_of m) (all_pass_of l)) (number_of m (λ j. cell_wraps (channel (owner_of m)) j i)) zero) (get_or old m nan)) (length old)

-- a count that goes on from the remainder
pub delays_wraps_on : (t n : ℕ) (l : Layout) (channel : ℕ → Channel) (old : List Float) → delays_with l (t % 420 + n) channel old ≡ delays_with l (t + n) channel old
delays_wraps_on t n l channel old =
    sym (delays_wraps (t % 420 + n) l channel old) ∙ ap (λ (m : ℕ). delays_with l m channel old) (mod-add-mod t 420 n) ∙ delays_wraps (t + n) l channel old
