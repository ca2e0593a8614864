-- What is laid on the desks for all channels, told from the numbers that were put there. Assumes nothing.
use mathlib.Core.Path.{◌≡◌, refl, sym, ap, ap₂, ◌∙◌}
use mathlib.Core.Bool.{Bool, true, false, cond}
use mathlib.Core.List.{List}
use Prim.Native.Nat.{ℕ, ◌+◌, ◌*◌, ◌/◌, ◌%◌, ◌≤◌, ◌<◌}
use native.Mathlib.Omega.{arith}
use borrow.Author.Tests.{ltb-true, ltb-false}
use lib.Dec.{ltb}
use lib.Ieee.{Float, nan}
use lib.ListN.{length, get_or, set}
use Rattle.complex.specs.declared.Complex.{Complex}
use Rattle.layout.specs.declared.Layout.{Layout}
use Rattle.layout.specs.Numbers.{bands_of, unsplit_from_of}
use Rattle.limits.specs.Limits as limits
use Rattle.lists.specs.Part.{part}
use Rattle.lists.proofs.Parts.{part_at}
use Rattle.planar.specs.Cells.{cell}
use Rattle.planar.specs.Frame.{kept_matrix, sample_at, qmf_at, qmf_band_of, sample_in}
use Rattle.planar.proofs.Cells.{by_parts}
use Rattle.ps_allpass_groups.specs.Desk.{sample_on, duck_on}
use Rattle.ps_map.specs.Bands.{parameter_map, band_of}
use Rattle.ps_map.proofs.Bands.{band_small}
use Rattle.ps_stereo_slots.specs.Regions.{step_of}
use Rattle.ps_stereo_slots.proofs.Runs.{by_coefficients}
use Rattle.ps_allpass_channels.specs.Desks.{lanes_of, Lies, Wayed}
use Rattle.ps_allpass_channels.specs.DeskNumbers.{number_at, sample_number, Put}
use Rattle.ps_allpass_channels.proofs.DeskPuts.{put_none, put_more}
use Rattle.ps_allpass_channels.proofs.DeskReads.{way_number, matrix_of, from_at, step_at, sample_at_lem, duck_at}

-- ---- the map of channels to bands
pub band_fits : (l : Layout) (map : List ℕ) (k : ℕ) → map ≡ parameter_map l → get_or map k 0 < bands_of l
band_fits l map k e = rw e (band_small l k)

-- ---- coefficients
kept : (rows : List Float) (at : ℕ) → matrix_of (λ i. get_or rows (at + i) nan) 0 ≡ kept_matrix (part at 8 rows)
kept rows at =
    by_coefficients (by_parts (number 0 (omega arith)) (number 1 (omega arith))) (by_parts (number 2 (omega arith)) (number 3 (omega arith)))
    (by_parts (number 4 (omega arith)) (number 5 (omega arith))) (by_parts (number 6 (omega arith)) (number 7 (omega arith)))
  where
    number : (i : ℕ) → i < 8 → get_or rows (at + i) nan ≡ get_or (part at 8 rows) i nan
    number i u = sym (part_at at 8 rows i nan u)

module _ (l : Layout) (rows : List Float) (e next : ℕ) where
  abbrev way : ℕ → ℕ → Float
  way k = way_number rows (limits.course * band_of l k + 8 * e) (limits.course * band_of l k + 8 * next)

  pub wayed : {old desks : List Float} → Put 0 (lanes_of l) 11 (λ j. j < 27) way old desks → Wayed l rows e next desks
  wayed {desks = desks} r =
      record {
        from = λ k u. from_at desks k (way k) (λ j a b. r.inside k j (omega arith) u a (omega arith) (omega arith)) ∙ kept rows (limits.course * band_of l k + 8 * e);
        step = λ k u.
            step_at desks k (way k) (λ j a b. r.inside k j (omega arith) u (omega arith) (omega arith) b)
            ∙ ap₂ step_of (kept rows (limits.course * band_of l k + 8 * e)) (kept rows (limits.course * band_of l k + 8 * next));
      }

-- ---- samples and ducking factors
module _ (k : ℕ) (desks : List Float) (within : k < 52) (whole : length desks ≡ 1768) where
  pub sample_put : (x : Complex) → Put k (k + 1) 27 (λ j. j < 29) (λ _. sample_number x) desks
      (set (set desks (136 * (k / 4) + k % 4 + 108) x.re) (136 * (k / 4) + k % 4 + 108 + 4) x.im)
  sample_put x =
      let at = 136 * (k / 4) + k % 4 + 108 in
      put_more
      (put_more (put_none k 27 (λ _. sample_number x) desks) (λ j. j < 28) 27 at x.re within whole (omega arith) (omega arith) (omega arith) refl
      (λ j lo u ne. omega arith))
      (λ j. j < 29) 28 (at + 4) x.im within whole (omega arith) (omega arith) (omega arith) refl (λ j lo u ne. omega arith)

-- a split band's channel has its run in its row
pub in_run : (samples : List Float) (n k : ℕ) → n < 32 → cell 32 samples (64 * k + n) ≡ sample_at samples n k
in_run samples n k u =
    let behind : 64 * k + (n + 32) ≡ 64 * k + n + 32 = omega arith in
    by_parts (sym (part_at (64 * k) 64 samples n nan (omega arith)))
    (ap (λ (i : ℕ). get_or samples i nan) (sym behind) ∙ sym (part_at (64 * k) 64 samples (n + 32) nan (omega arith)))

module _ (l : Layout) (samples gains input : List Float) (n : ℕ) {old split row desks : List Float} where
  pub entered : Put 0 (unsplit_from_of l) 27 (λ j. j < 29) (λ k. sample_number (sample_at samples n k)) old split
      → Put (unsplit_from_of l) (lanes_of l) 27 (λ j. j < 29) (λ k. sample_number (qmf_at input n (qmf_band_of l k))) split row
      → Put 0 (lanes_of l) 29 (λ j. j < 30) (λ k _. get_or gains (32 * band_of l k + n) nan) row desks
      → Lies l sample_on desks (sample_in l samples input n) × Lies l duck_on desks (λ k. get_or gains (32 * band_of l k + n) nan)
  entered p q r = (
    λ k u. sample_at_lem desks k (sample_number (sample_in l samples input n k)) (λ j a b. r.before k j b ∙ sample k j u a b (ltb k (unsplit_from_of l)) refl),
    λ k u. duck_at desks k (λ _. get_or gains (32 * band_of l k + n) nan) (λ j a b. r.inside k j (omega arith) u a (omega arith) b),
  )
    where
      sample : (k j : ℕ) → k < lanes_of l → 27 ≤ j → j < 29 → (t : Bool) → ltb k (unsplit_from_of l) ≡ t
          → number_at row k j ≡ sample_number (cond t (sample_at samples n k) (qmf_at input n (qmf_band_of l k))) j
      sample k j u a b true e =
          let low : k < unsplit_from_of l = ltb-true k (unsplit_from_of l) e in
          q.below k j low (omega arith) ∙ p.inside k j (omega arith) low a (omega arith) b
      sample k j u a b false e = q.inside k j (ltb-false k (unsplit_from_of l) e) u a (omega arith) b
