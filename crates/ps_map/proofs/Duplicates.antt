-- Each number twice: the length is twice the length, and every place has the number at half of it. Assumes nothing.
use mathlib.Core.Path.{◌≡◌, refl, sym, ◌∙◌}
use mathlib.Core.List.{List, [], ◌∷◌}
use Prim.Native.Nat.{ℕ, zero, suc, ◌*◌, ◌/◌}
use native.Mathlib.Omega.{arith}
use lib.IntN.{ℤ, pos}
use lib.ListN.{length, get_or}
use Rattle.lists.specs.Padded.{padded}
use Rattle.lists.specs.Rows.{tabulate}
use Rattle.lists.proofs.Maps.{tabulate_same}
use Rattle.ps_map.specs.Maps.{duplicated}
use Rattle.ps_map.proofs.Held.{held_places}

pub duplicated_length : (v : List ℤ) → length (duplicated v) ≡ 2 * length v
duplicated_length [] = refl
duplicated_length (x ∷ v) = omega (arith, duplicated_length v)

-- place i has the number at i / 2
pub duplicated_at : (v : List ℤ) (i : ℕ) → get_or (duplicated v) i (pos 0) ≡ get_or v (i / 2) (pos 0)
duplicated_at [] i = refl
duplicated_at (x ∷ v) zero = refl
duplicated_at (x ∷ v) (suc zero) = refl
duplicated_at (x ∷ v) (suc (suc i)) =
    let half : suc (suc i) / 2 ≡ suc (i / 2) = omega arith in
    rw half (duplicated_at v i)

pub doubled_places : (n : ℕ) (v : List ℤ) → tabulate (λ i. get_or v (i / 2) (pos 0)) n ≡ padded n (pos 0) (duplicated v)
doubled_places n v =
    tabulate_same (λ i. get_or v (i / 2) (pos 0)) (λ i. get_or (duplicated v) i (pos 0)) n (λ i h. sym (duplicated_at v i)) ∙ held_places (pos 0) n (duplicated v)
