-- The first channels of the split bands rise from 0 to the first channel of an unsplit band, by the two layouts' tables. Assumes nothing.
use mathlib.Core.Path.{◌≡◌, refl}
use Prim.Native.Nat.{ℕ, zero, suc, ◌≤◌, ◌<◌}
use native.Mathlib.Omega.{arith}
use Rattle.layout.specs.declared.Layout.{Layout}
use Rattle.layout.specs.declared.Layout.TheVariants.{Bands20, Bands34}
use Rattle.layout.specs.Numbers.{split_of, unsplit_from_of, first_channel_of}

pub span_first : (l : Layout) → first_channel_of l 0 ≡ 0
span_first Bands20 = refl
span_first Bands34 = refl

pub record Spans (l : Layout) (q : ℕ) : Type 0 where
  pub rises : first_channel_of l q ≤ first_channel_of l (suc q)
  -- no split band is without a channel
  pub some : q < split_of l → first_channel_of l q < first_channel_of l (suc q)
  pub last : split_of l ≤ q → first_channel_of l q ≡ unsplit_from_of l
  pub most : first_channel_of l q ≤ unsplit_from_of l
  pub few : first_channel_of l q ≤ 32

pub spans : (l : Layout) (q : ℕ) → Spans l q
spans Bands20 zero = record { rises = omega arith; some = λ h. omega arith; last = λ h. absurd (omega arith); most = omega arith; few = omega arith }
spans Bands20 (suc zero) = record { rises = omega arith; some = λ h. omega arith; last = λ h. absurd (omega arith); most = omega arith; few = omega arith }
spans Bands20 (suc (suc zero)) = record { rises = omega arith; some = λ h. omega arith; last = λ h. absurd (omega arith); most = omega arith; few = omega arith }
spans Bands20 (suc (suc (suc q))) = record { rises = omega arith; some = λ h. absurd (omega arith); last = λ h. refl; most = omega arith; few = omega arith }
spans Bands34 zero = record { rises = omega arith; some = λ h. omega arith; last = λ h. absurd (omega arith); most = omega arith; few = omega arith }
spans Bands34 (suc zero) = record { rises = omega arith; some = λ h. omega arith; last = λ h. absurd (omega arith); most = omega arith; few = omega arith }
spans Bands34 (suc (suc zero)) = record { rises = omega arith; some = λ h. omega arith; last = λ h. absurd (omega arith); most = omega arith; few = omega arith }
spans Bands34 (suc (suc (suc zero))) = record { rises = omega arith; some = λ h. omega arith; last = λ h. absurd (omega arith); most = omega arith; few = omega arith }
spans Bands34 (suc (suc (suc (suc zero)))) = record { rises = omega arith; some = λ h. omega arith; last = λ h. absurd (omega arith); most = omega arith; few = omega arith }
spans Bands34 (suc (suc (suc (suc (suc q))))) = record { rises = omega arith; some = λ h. absurd (omega arith); last = λ h. refl; most = omega arith; few = omega arith }
