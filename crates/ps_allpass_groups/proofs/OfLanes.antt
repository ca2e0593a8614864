-- What a lane of four has. Assumes nothing.
use mathlib.Core.Path.{◌≡◌, refl, ap, ◌∙◌}
use mathlib.Core.List.{List}
use Prim.Native.Nat.{ℕ, zero, suc, ◌+◌, ◌<◌}
use native.Mathlib.Omega.{arith}
use lib.Ieee.{Float, nan}
use lib.ListN.{get_or}
use Rattle.complex.specs.declared.Complex.{Complex}
use Rattle.planar.specs.Cells.{cell}
use Rattle.standard.specs.declared.Link.{Link}
use Rattle.ps_allpass_groups.specs.declared.lanes.Four.{Four}
use Rattle.ps_allpass_groups.specs.declared.lanes.Pair.{Pair}
use Rattle.ps_allpass_groups.specs.Lanes.{number_of, lane_of, link_of, four, lanes, flat}

pub number_of_lem : (f : ℕ → Float) (i : ℕ) → i < 4 → number_of i (four f) ≡ f i
number_of_lem f zero l = refl
number_of_lem f (suc zero) l = refl
number_of_lem f (suc (suc zero)) l = refl
number_of_lem f (suc (suc (suc zero))) l = refl
number_of_lem f (suc (suc (suc (suc i)))) l = absurd (omega arith)

pub lane_of_lem : (f : ℕ → Complex) (i : ℕ) → i < 4 → lane_of i (lanes f) ≡ f i
lane_of_lem f zero l = refl
lane_of_lem f (suc zero) l = refl
lane_of_lem f (suc (suc zero)) l = refl
lane_of_lem f (suc (suc (suc zero))) l = refl
lane_of_lem f (suc (suc (suc (suc i)))) l = absurd (omega arith)

pub cell_flat : (x : Pair) (i : ℕ) → i < 4 → cell 4 (flat x) i ≡ lane_of i x
cell_flat x zero l = refl
cell_flat x (suc zero) l = refl
cell_flat x (suc (suc zero)) l = refl
cell_flat x (suc (suc (suc zero))) l = refl
cell_flat x (suc (suc (suc (suc i)))) l = absurd (omega arith)

-- four lanes that are equal one by one are one
pub lanes_same : (f g : ℕ → Complex) → ((i : ℕ) → i < 4 → f i ≡ g i) → lanes f ≡ lanes g
lanes_same f g e =
    let p₀ = e 0 (omega arith) in
    let p₁ = e 1 (omega arith) in
    let p₂ = e 2 (omega arith) in
    let p₃ = e 3 (omega arith) in
    λ k.
    record {
      re = record { a = (p₀ k).re; b = (p₁ k).re; c = (p₂ k).re; d = (p₃ k).re };
      im = record { a = (p₀ k).im; b = (p₁ k).im; c = (p₂ k).im; d = (p₃ k).im };
    }

pub link_by_parts : {x y : Link} → x.rotation ≡ y.rotation → x.feedback ≡ y.feedback → x ≡ y
link_by_parts p q = λ i. record { rotation = p i; feedback = q i }

-- those that stand from a place on: four numbers; the real parts of four complex numbers, then the imaginary parts
abbrev pub four_at : List Float → ℕ → Four
four_at xs at = four (λ i. get_or xs (at + i) nan)

abbrev pub lanes_at : List Float → ℕ → Pair
lanes_at xs at = lanes (λ i. cell 4 xs (at + i))

-- a link's constants, read from where they stand
abbrev pub link_at : ℕ → List Float → Link
link_at at xs = record { rotation = cell 4 xs at; feedback = get_or xs (at + 8) nan }

pub link_read : (xs : List Float) (at i : ℕ) → i < 4 → link_of i (lanes_at xs at) (four_at xs (at + 8)) ≡ link_at (at + i) xs
link_read xs at i l =
    link_by_parts (lane_of_lem (λ j. cell 4 xs (at + j)) i l)
    (number_of_lem (λ j. get_or xs (at + 8 + j) nan) i l ∙ ap (λ (n : ℕ). get_or xs n nan) (omega arith))
