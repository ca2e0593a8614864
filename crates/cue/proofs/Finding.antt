-- The first check that fails: of a list and another behind it, and of bytes that stand evenly apart. Assumes nothing.
use mathlib.Core.Path.{◌≡◌, refl}
use mathlib.Core.List.{List, [], ◌∷◌, ◌++◌}
use mathlib.Core.Bool.{Bool, true, false, cond}
use Prim.Native.Nat.{ℕ, suc, ◌+◌, ◌-◌, ◌*◌, ◌<◌}
use native.Mathlib.Nat.{suc-mul}
use native.Mathlib.Omega.{arith}
use lib.Dec.{leb}
use lib.ListN.{get_or}
use Rattle.std.specs.Prelude.{Option, Some, None}
use Rattle.std.specs.Option.{option_or}
use Rattle.cue.specs.Checks.{Check, found, every}

pub or_assoc : (x y z : Option ℕ) → option_or (option_or x y) z ≡ option_or x (option_or y z)
or_assoc None y z = refl
or_assoc (Some p) y z = refl

module _ (bytes : List ℕ) where
  -- where one of the first list fails, it is the first of both, else the second decides
  pub found_or : (a b : List Check) → found bytes (a ++ b) ≡ option_or (found bytes a) (found bytes b)
  unfolding found
  found_or [] b = refl
  found_or (c ∷ a) b = go (found_or a b) (c.fits (get_or bytes c.place 0))
    where
      go : found bytes (a ++ b) ≡ option_or (found bytes a) (found bytes b) → (t : Bool)
          → cond t (found bytes (a ++ b)) (Some c.place) ≡ option_or (cond t (found bytes a) (Some c.place)) (found bytes b)
      go more true = more
      go more false = refl

  -- one of n bytes more
  pub found_step : (most n i apart place : ℕ) → i < n
      → found bytes (every most (n - i) apart (place + i * apart))
      ≡ cond (leb (get_or bytes (place + i * apart) 0) most) (found bytes (every most (n - (i + 1)) apart (place + (i + 1) * apart))) (Some (place + i * apart))
  unfolding found every
  found_step most n i apart place h =
      let more : n - i ≡ suc (n - (i + 1)) = omega arith in
      let next : place + (i + 1) * apart ≡ place + i * apart + apart = omega (arith, suc-mul i apart) in
      rw (more, next)
